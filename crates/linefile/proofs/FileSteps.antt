-- The readings of a line file, step by step. Assumes nothing.
use Rattle.std.proofs.Common.{◌≡◌, ℕ, suc, List, map, Ok, Err, Result, refl, ap, ◌∙◌, arith}
use Rattle.std.specs.List.{range_with_len}
use Rattle.model.specs.Charts.{EventChart}
use Rattle.model.specs.Components.{components}
use Rattle.model.specs.Generators.{Gen}
use Rattle.model.specs.Readings.{and_then, in_turn}
use Rattle.model.specs.declared.fault.Fault.{Fault}
use Rattle.charts.specs.Headers.{Sizes, header_reading}
use Rattle.linefile.specs.Layout.{body_of, contents_reading}
use Rattle.linefile.specs.Bank.{component_in}
use Rattle.linefile.specs.File.{opened, event_reading, chart_reading, component_reading, bank_reading}

-- what comes after two readings comes after the first, with the second in between
module _ (s : Sizes) (more : Result EventChart Fault) where
  second-off : (t : Result (Unit {0}) Fault) (e : Fault) → Err e ≡ and_then t (λ _. Ok s) → Err e ≡ and_then t (λ _. more)
  second-off t e h = grind arith

  second-on : (t : Result (Unit {0}) Fault) (u : Sizes) → Ok u ≡ and_then t (λ _. Ok s) → (u ≡ s) × (more ≡ and_then t (λ _. more))
  second-on t u h = grind arith

module _ (t : Sizes → Result (Unit {0}) Fault) (more : Sizes → Result EventChart Fault) where
  both-off : (r : Result Sizes Fault) (e : Fault) → Err e ≡ and_then r (λ s. and_then (t s) (λ _. Ok s)) → Err e ≡ and_then r (λ s. and_then (t s) (λ _. more s))
  both-off (Ok s) e h = second-off s (more s) (t s) e h
  both-off (Err f) e h = cc

  both-on : (r : Result Sizes Fault) (u : Sizes) → Ok u ≡ and_then r (λ s. and_then (t s) (λ _. Ok s)) → more u ≡ and_then r (λ s. and_then (t s) (λ _. more s))
  both-on (Ok s) u h = let p = second-on s (more s) (t s) u h in ap more p.0 ∙ p.1
  both-on (Err f) u h = cc

module _ (file : List ℕ) where
  pub opened-header : (e : Fault) → Err e ≡ header_reading file → Err e ≡ opened file
  unfolding opened
  opened-header e h = rw (← h) refl

  pub opened-contents : (s : Sizes) → Ok s ≡ header_reading file → (e : Fault) → Err e ≡ contents_reading s.levels s.events file → Err e ≡ opened file
  unfolding opened
  opened-contents s head e h = rw (← head, ← h) refl

  pub opened-whole : (s : Sizes) → Ok s ≡ header_reading file → Ok tt ≡ contents_reading s.levels s.events file → Ok s ≡ opened file
  unfolding opened
  opened-whole s head h = rw (← head, ← h) refl

  pub chart-off : (e : Fault) → Err e ≡ opened file → Err e ≡ chart_reading file
  unfolding opened chart_reading
  chart-off e h = both-off (λ s. contents_reading s.levels s.events file) (λ s. event_reading s file) (header_reading file) e h

  pub chart-rows : (s : Sizes) → Ok s ≡ opened file → event_reading s file ≡ chart_reading file
  unfolding opened chart_reading
  chart-rows s h = both-on (λ s. contents_reading s.levels s.events file) (λ s. event_reading s file) (header_reading file) s h

  pub bank-chart : (e : Fault) → Err e ≡ chart_reading file → Err e ≡ bank_reading file
  unfolding bank_reading
  bank-chart e h = rw (← h) refl

  module _ (chart : EventChart) (is : Ok chart ≡ chart_reading file) (n E : ℕ) (f : List ℕ) (levels : n ≡ chart.levels) (events : E ≡ chart.events) (same : f ≡ file) where
    pub bank-components : (e : Fault) → Err e ≡ in_turn (component_reading n E f) (components n) → Err e ≡ bank_reading file
    unfolding bank_reading
    bank-components e h = rw (← is, ← levels, ← events, ← same, ← h) refl

    pub bank-whole : (gens : List Gen) → Ok tt ≡ in_turn (component_reading n E f) (components n) →
        gens ≡ map (λ c. component_in chart c (body_of chart.levels file (suc c))) (range_with_len 0 (components chart.levels)) →
        Ok gens ≡ bank_reading file
    unfolding bank_reading
    bank-whole gens h g =
        let k : Ok tt ≡ in_turn (component_reading chart.levels chart.events file) (components chart.levels) = rw (← levels, ← events, ← same) h in
        rw (← is, ← k) (ap Ok g)
