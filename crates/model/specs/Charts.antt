-- What a chart of events means, and the alphabets of the levels. Assumes nothing.
use Rattle.std.specs.Prelude.{◌≡◌, ℕ, ◌<◌, ◌≤◌, Bool, true, false, not, ◌&&◌, ◌||◌, ◌==◌, nat_lt}
use Rattle.model.specs.Numbers.{any}
use Rattle.model.specs.declared.kind.Kind.{Kind}
use Rattle.model.specs.declared.kind.Kind.TheVariants.{High, Low, Request, Answer}

abbrev pub is_high : Kind → Bool
is_high High = true
is_high Low = false
is_high Request = false
is_high Answer = false

abbrev pub is_low : Kind → Bool
is_low High = false
is_low Low = true
is_low Request = false
is_low Answer = false

abbrev pub is_request : Kind → Bool
is_request High = false
is_request Low = false
is_request Request = true
is_request Answer = false

abbrev pub is_answer : Kind → Bool
is_answer High = false
is_answer Low = false
is_answer Request = false
is_answer Answer = true

-- the meaning of a chart: the number of low levels, the number of events, and for each event below it the kind, the owner (0 is the high level)
-- and whether it is uncontrollable
pub record EventChart : Type 0 where
  pub levels : ℕ
  pub events : ℕ
  pub kind : ℕ → Kind
  pub owner : ℕ → ℕ
  pub uncontrollable : ℕ → Bool

module _ (c : EventChart) where
  -- j is the number of a low level
  abbrev pub IsLevel : ℕ → Type 0
  IsLevel j = (1 ≤ j) × (j ≤ c.levels)

  -- the alphabet of the high level: all H, R and A events
  abbrev pub in_high : ℕ → Bool
  in_high e = nat_lt e c.events && not (is_low (c.kind e))

  -- the alphabet of level j: all events that it owns
  abbrev pub in_level : ℕ → ℕ → Bool
  in_level j e = nat_lt e c.events && c.owner e == j

  -- the alphabet of interface j: the requests and answers of level j
  abbrev pub in_interface : ℕ → ℕ → Bool
  in_interface j e = in_level j e && (is_request (c.kind e) || is_answer (c.kind e))

  -- level j owns a request, and an answer
  abbrev pub owns_request : ℕ → Bool
  owns_request j = any c.events (λ e. is_request (c.kind e) && c.owner e == j)

  abbrev pub owns_answer : ℕ → Bool
  owns_answer j = any c.events (λ e. is_answer (c.kind e) && c.owner e == j)

  -- the rules that every chart keeps
  pub record WellCharted : Type 0 where
    pub some_level : 1 ≤ c.levels
    pub few_levels : c.levels ≤ 8
    pub some_event : 1 ≤ c.events
    pub few_events : c.events ≤ 64
    pub high_owner : (e : ℕ) → e < c.events → is_high (c.kind e) ≡ true → c.owner e ≡ 0
    pub low_owner : (e : ℕ) → e < c.events → is_high (c.kind e) ≡ false → IsLevel (c.owner e)
    pub requests : (j : ℕ) → IsLevel j → owns_request j ≡ true
    pub answers : (j : ℕ) → IsLevel j → owns_answer j ≡ true
