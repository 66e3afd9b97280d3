-- The letters of bodies, as bytes. Assumes nothing.
use Rattle.std.specs.Prelude.{ℕ, Bool, ◌||◌, ◌==◌}

-- the make: T, C or I
abbrev pub is_table : ℕ → Bool
is_table b = b == 84

abbrev pub is_counter : ℕ → Bool
is_counter b = b == 67

abbrev pub is_stock : ℕ → Bool
is_stock b = b == 73

-- the letter - : an event that is not known, or a state that is not marked
abbrev pub is_not : ℕ → Bool
is_not b = b == 45

-- a table's letters: + for a known event, m for a marked state
abbrev pub is_known : ℕ → Bool
is_known b = b == 43

abbrev pub is_mark : ℕ → Bool
is_mark b = b == 109

-- a counter's letters: u for up, d for down, s for an event that stays
abbrev pub is_up : ℕ → Bool
is_up b = b == 117

abbrev pub is_down : ℕ → Bool
is_down b = b == 100

abbrev pub is_stay : ℕ → Bool
is_stay b = b == 115

-- the letter of a counter's known event
abbrev pub is_step : ℕ → Bool
is_step b = is_up b || (is_down b || is_stay b)

-- 255: no move, or no event
abbrev pub is_none : ℕ → Bool
is_none b = b == 255
