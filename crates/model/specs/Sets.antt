-- Sets of events as 64-bit words. Assumes nothing.
use Rattle.std.specs.Prelude.{ℕ, ◌/◌, ◌%◌, ◌^◌, Bool, ◌&&◌, ◌==◌, nat_lt}

-- the word has the bit of event e
unfoldable pub bit : ℕ → ℕ → Bool
bit w e = w / 2 ^ e % 2 == 1

-- event e is in the set that the word holds; a set has only events below 64
abbrev pub member : ℕ → ℕ → Bool
member w e = nat_lt e 64 && bit w e
