-- Rows that are what a look shows, and the facts of a running line. Assumes nothing.
use Rattle.std.proofs.Common.{◌≡◌, ℕ, ◌≤◌, Bool, true, cond, ltb, List, length, get_or, sym, ap, ◌∙◌, inl, inr, arith}
use Rattle.std.proofs.lemmas.List.{get_or_past, ext_get_or}
use Rattle.std.proofs.lemmas.Bool.{cases_Bool, cases_lt, le-ltb, ltb-false}
use Rattle.model.specs.Generators.{Gen, AllFormed, nothing}
use Rattle.charts.specs.Meanings.{chart_of}
use Rattle.charts.proofs.Rules.{well-charted}
use Rattle.hisc.specs.Calls.{row, look}
use Rattle.hisc.specs.Law.{Law, Assured}
use Rattle.hisc.specs.Lines.{Line, State, WellMade, components, flat, initial, moved, possible, begin, step}
use Rattle.hisc.proofs.Laws.{lawful, assured}
use Rattle.hisc.proofs.Made.{well-made}
use Rattle.hisc.proofs.Replies.{length-row, row_at}
use Rattle.walks.specs.Rows.{row_state}
use Rattle.walks.specs.declared.row.Row.{Row}
use Rattle.line.specs.Checked.{Checked, Runs}
use Rattle.walks.specs.Given.{line_given}
use Rattle.walks.specs.declared.line.Line.{Line as Given}

module _ (l : Line) where
  -- 26 places that are 0 beyond the last component
  pub shows : (states : List ℕ) → length states ≡ 26 → ((c : ℕ) → components l ≤ c → get_or states c 0 ≡ 0) → states ≡ look l (λ c. get_or states c 0)
  shows states long beyond =
      ext_get_or 0 states (look l (λ c. get_or states c 0)) (long ∙ sym (length-row 26 (λ c. cond (ltb c (components l)) (get_or states c 0) 0)))
      (λ c lt. at c ∙ sym (row_at 26 (λ i. cond (ltb i (components l)) (get_or states i 0) 0) c (omega arith)))
    where
      at : (c : ℕ) → get_or states c 0 ≡ cond (ltb c (components l)) (get_or states c 0) 0
      at c =
          elim (cases_Bool (ltb c (components l))) [
            | inl t ↦ sym (ap (λ (b : Bool). cond b (get_or states c 0) 0) t)
            | inr f ↦ beyond c (ltb-false c (components l) f) ∙ sym (ap (λ (b : Bool). cond b (get_or states c 0) 0) f)
          ]

  pub shown-beyond : (states : List ℕ) → states ≡ look l (λ c. get_or states c 0) → (c : ℕ) → components l ≤ c → get_or states c 0 ≡ 0
  shown-beyond states h c ge =
      ap (λ (xs : List ℕ). get_or xs c 0) h ∙ elim (cases_lt c 26) [
        | inl lt ↦ row_at 26 (λ i. cond (ltb i (components l)) (get_or states i 0) 0) c lt ∙ ap (λ (b : Bool). cond b (get_or states c 0) 0) (le-ltb c (components l) ge)
        | inr past ↦ get_or_past (look l (λ i. get_or states i 0)) c 0 (omega (arith, length-row 26 (λ i. cond (ltb i (components l)) (get_or states i 0) 0)))
      ]

module _ {B : Type 0} (list : B → List Gen) (given : Given B) (formed : AllFormed (list given.bank)) where
  abbrev line : Line
  line = line_given list given

  pub made : Checked list given → WellMade line
  made f = well-made (chart_of given.chart) (list given.bank) (well-charted given.chart) formed f.sizes.complete

  -- every queue of calls keeps the law, and every state of a running line is assured
  pub law-of : Checked list given → Law line
  law-of f = lawful line (made f) f.points

  pub assured-of : (row : Row) → Runs list given row → Assured line (row_state row)
  assured-of row r = assured line (made r.checked) r.checked.points (row_state row) r.reached

  pub row-long : (row : Row) → Runs list given row → length row.states ≡ 26
  row-long row r = ap length r.shown ∙ length-row 26 (λ c. cond (ltb c (components line)) (row_state row c) 0)

  -- a row of the initial states, and one after a possible event
  pub runs-begin : Checked list given → (row : Row) → length row.states ≡ 26 → row_state row ≡ initial line → Runs list given row
  runs-begin f row long is = record {
    checked = f;
    reached = begin (λ c lt i. ap (λ (x : State). x c) (sym is));
    shown = shows line row.states long (λ c ge. ap (λ (x : State). x c) is ∙ ap (λ (g : Gen). g.initial) (get_or_past (list given.bank) c nothing (omega (arith, f.sizes.complete))));
  }

  pub runs-step : (row : Row) → Runs list given row → (e : ℕ) → possible line (flat line) (row_state row) e ≡ true →
      (states : List ℕ) → length states ≡ 26 → ((c : ℕ) → components line ≤ c → get_or states c 0 ≡ 0) →
      ◌≡◌ {A = State} (λ c. get_or states c 0) (moved line (row_state row) e) → Runs list given (record { states = states })
  runs-step row r e can states long beyond is = record {
    checked = r.checked;
    reached = step e r.reached can (λ c lt i. ap (λ (x : State). x c) (sym is));
    shown = shows line states long beyond;
  }
