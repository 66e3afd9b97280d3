-- The sets of events and the questions that a chart answers, besides the alphabets of its levels. Assumes nothing.
use Rattle.std.specs.Prelude.{ℕ, Bool, cond, ◌&&◌, Some, None, Option, nat_lt}
use Rattle.model.specs.Charts.{EventChart, is_low, is_request, is_answer, in_level}
use Rattle.model.specs.declared.kind.Kind.{Kind}

module _ (c : EventChart) where
  -- the requests, the answers and the L events of level j
  abbrev pub in_requests : ℕ → ℕ → Bool
  in_requests j e = in_level c j e && is_request (c.kind e)

  abbrev pub in_answers : ℕ → ℕ → Bool
  in_answers j e = in_level c j e && is_answer (c.kind e)

  abbrev pub in_low : ℕ → ℕ → Bool
  in_low j e = in_level c j e && is_low (c.kind e)

  -- the kind and the owner of an event; there is none from the number of events up
  abbrev pub kind_at : ℕ → Option Kind
  kind_at e = cond (nat_lt e c.events) (Some (c.kind e)) None

  abbrev pub owner_at : ℕ → Option ℕ
  owner_at e = cond (nat_lt e c.events) (Some (c.owner e)) None
