-- Lines that are made of a chart and a list of components, and states that are held in a row. Assumes nothing.
use Rattle.std.proofs.Common.{◌≡◌, ℕ, zero, suc, ◌+◌, ◌*◌, ◌<◌, ◌≤◌, false, List, [], ◌∷◌, length, get_or, sym, ◌∙◌, inl, inr, arith}
use mathlib.Core.Path.{fun_ext}
use lib.ListN.{get_or-eq_default}
use Rattle.std.proofs.lemmas.Bool.{cases_lt}
use Rattle.model.specs.Generators.{Gen, WellFormed, nothing, AllFormed, moves}
use Rattle.model.specs.Charts.{EventChart, WellCharted}
use Rattle.hisc.specs.Lines.{Line, line_of, WellMade, State, moved}
use Rattle.hisc.proofs.Walks.{unknown-moves}

pub formed-at : (gens : List Gen) → AllFormed gens → (c : ℕ) → c < length gens → WellFormed (get_or gens c nothing)
formed-at [] f c lt = absurd (omega arith)
formed-at (g ∷ gens) f zero lt = f.0
formed-at (g ∷ gens) f (suc c) lt = formed-at gens f.1 c (omega arith)

-- a chart that keeps its rules and as many well-formed components as it asks for are a line
pub well-made : (chart : EventChart) (gens : List Gen) → WellCharted chart → AllFormed gens → length gens ≡ 2 + 3 * chart.levels → WellMade (line_of chart gens)
well-made chart gens k f n = record { charted = k; formed = λ c lt. formed-at gens f c (omega arith) }

-- code that moves each place of a row moves the state, if no generator beyond the row knows the event
pub row_moved : (l : Line) (a b : List ℕ) (e : ℕ) → length a ≡ length b → ((c : ℕ) → c < length a → get_or b c 0 ≡ moves (l.component c) (get_or a c 0) e) →
    ((c : ℕ) → length a ≤ c → (l.component c).knows e ≡ false) → ◌≡◌ {A = State} (λ c. get_or b c 0) (moved l (λ c. get_or a c 0) e)
row_moved l a b e n f u =
    fun_ext (λ c. elim (cases_lt c (length a)) [
      | inl lt ↦ f c lt
      | inr ge ↦ get_or-eq_default b 0 (omega (arith, n)) ∙ sym (unknown-moves (l.component c) (get_or a c 0) e (u c ge) ∙ get_or-eq_default a 0 ge)
    ])
