-- The components of a line by number. Assumes nothing.
use Rattle.std.specs.Prelude.{ℕ, ◌+◌, ◌*◌, ◌/◌, ◌%◌, Bool, ◌&&◌, ◌==◌, nat_le}

-- how many components a line of n levels has
abbrev pub components : ℕ → ℕ
components n = 2 + 3 * n

-- components 0 and 1 are of the high level, 0; components 3j − 1, 3j and 3j + 1 of level j
abbrev pub level_of : ℕ → ℕ
level_of c = (c + 1) / 3

-- component 3j + 1 is the interface of level j
abbrev pub is_interface : ℕ → Bool
is_interface c = nat_le 2 c && c % 3 == 1
