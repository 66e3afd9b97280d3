-- The walks of a passed line can be searched. Assumes nothing.
use Rattle.std.proofs.Common.{◌≡◌, ℕ, ◌<◌, ◌≤◌, min, Bool, true, cond, not, ◌||◌, ltb, leb, List, Ok, Err, Result, IsOk, rules, sym, refl, ap, inl, inr, arith}
use Rattle.std.proofs.lemmas.Bool.{or_right, and_from, le-leb, lt-ltb}
use Rattle.model.specs.Generators.{Gen, AllFormed}
use Rattle.model.specs.declared.fault.Fault.{Fault}
use Rattle.model.specs.declared.fault.Fault.TheVariants.{WorkCells}
use Rattle.model.specs.declared.fault.Layer.TheVariants.{Run}
use Rattle.model.proofs.Finds.{all_from}
use Rattle.hisc.specs.Calls.{guidance, refused, reply, Guide}
use Rattle.hisc.specs.Guide.{guide}
use Rattle.hisc.specs.Lines.{Line, State, Walk, WellMade, components, high, low}
use Rattle.hisc.specs.Rule.{InRange}
use Rattle.hisc.specs.Sizes.{size, largest_walk}
use Rattle.hisc.specs.Verdict.{SizesFit, Oversize, low_walk, high_walk}
use Rattle.hisc.proofs.Rules.{in-range}
use Rattle.walks.specs.Fits.{within}
use Rattle.walks.specs.Rows.{row_state}
use Rattle.walks.specs.declared.part.Part.TheVariants.{High, Low}
use Rattle.walks.specs.declared.row.Row.{Row}
use Rattle.guidance.specs.Ready.{Ready}
use Rattle.points.specs.Examined.{cells_in}
use Rattle.measure.specs.Measured.{Measured, Unmeasured}
use Rattle.measure.specs.declared.sizes.WalkSizes.{WalkSizes}
use Rattle.points.proofs.Verdicts.{low-largest, enough-cells, few-cells-of}
use Rattle.measure.proofs.WalkSizes.{none-refused}
use Rattle.line.specs.Checked.{Runs}
use Rattle.walks.specs.Given.{line_given}
use Rattle.walks.specs.declared.line.Line.{Line as Given}
use Rattle.line.proofs.Rows.{made}

module _ (l : Line) where
  inside : (x : State) → InRange l x → (w : Walk) → within l w x ≡ true
  inside x v w =
      all_from (components l) (λ c. not (w.inside c) || ltb (x c) (l.component c).count)
      (λ c lt. or_right (not (w.inside c)) (ltb (x c) (l.component c).count) (lt-ltb (x c) (l.component c).count (v c lt)))

  fits-level : (n : ℕ) → SizesFit l n → (j : ℕ) → Oversize l j → ⊥
  fits-level n s j (low_walk v few big) = omega (arith, s.lows j v)
  fits-level n s j (high_walk few big) = omega (arith, s.top)

  -- a line whose walks fit is measured
  pub never-unmeasured : (n : ℕ) → SizesFit l n → (f : Fault) → Unmeasured l n f → ⊥
  never-unmeasured n s f (inl h) = h.0 s.complete
  never-unmeasured n s f (inr h) = fits-level n s h.1.0 h.1.1

  pub measured : (n : ℕ) → SizesFit l n → (r : Result WalkSizes Fault) → Measured l n r → IsOk r
  measured n s (Ok sizes) m = search rules
  measured n s (Err f) m = absurd (never-unmeasured n s f m)

  -- the guide's reply, by the shortest of three slices
  pub told-guided : (x : State) (a b c : ℕ) → largest_walk l ≤ min (min a b) c → guidance (guide l x) ≡ reply l x (Guide (cells_in a b c))
  told-guided x a b c h =
      sym (ap (λ (t : Bool). cond t (guidance (guide l x)) (refused (WorkCells Run))) (enough-cells l a b c (omega arith) (omega arith) (omega arith)))

  pub told-short : (x : State) (a b c : ℕ) → min (min a b) c < largest_walk l → refused (WorkCells Run) ≡ reply l x (Guide (cells_in a b c))
  told-short x a b c h =
      sym (ap (λ (t : Bool). cond t (guidance (guide l x)) (refused (WorkCells Run))) (few-cells-of l a b c h))

module _ {B : Type 0} (list : B → List Gen) (given : Given B) (formed : AllFormed (list given.bank)) (row : Row) (r : Runs list given row) where
  abbrev line : Line
  line = line_given list given

  -- every walk can be searched from the states of a running line
  pub ready_of : (cells : ℕ) → largest_walk line ≤ cells → Ready line (row_state row) cells
  ready_of cells le =
      let m : WellMade line = made list given formed r.checked in
      let v : InRange line (row_state row) = in-range line m (row_state row) r.reached in
      record {
        top = record {
          fits = none-refused line m High refl r.checked.sizes.top;
          inside = inside line (row_state row) v (high line);
          room = le-leb (size line (high line)) cells (omega arith);
        };
        levels = λ j lv. record {
          fits = none-refused line m (Low j) (and_from (leb 1 j) (leb j line.chart.levels) (le-leb 1 j lv.0) (le-leb j line.chart.levels lv.1)) (r.checked.sizes.lows j lv);
          inside = inside line (row_state row) v (low line j);
          room = le-leb (size line (low line j)) cells (omega (arith, low-largest line j lv));
        };
      }
