-- The first point, event by event. Assumes nothing.
use Rattle.std.proofs.Common.{◌≡◌, ℕ, ◌<◌, Bool, true, false, Some, sym, refl, ◌∙◌, inl, inr, arith}
use Rattle.std.proofs.lemmas.Bool.{cases_Bool, cases_lt, not-true, not_from_false}
use Rattle.model.proofs.Finds.{never}
use Rattle.hisc.specs.Lines.{Line, WellMade, components}
use Rattle.hisc.specs.Points.{alphabet_of, AlphabetKnown}
use Rattle.hisc.specs.Verdict.{alphabet_known, Witness}
use Rattle.hisc.proofs.Walks.{alphabet-outside}
use Rattle.points.specs.Lowest.{alike, AllPass, FirstOff}

pub alike-eq : (a b : Bool) → alike a b ≡ true → a ≡ b
alike-eq true b t = sym t
alike-eq false b t = sym (not-true b t)

pub eq-alike : (a b : Bool) → a ≡ b → alike a b ≡ true
eq-alike true b q = sym q
eq-alike false b q = not_from_false b (sym q)

module _ (l : Line) (c : ℕ) (set : ℕ → Bool) (same : (e : ℕ) → set e ≡ alphabet_of l c e) where
  pub known-all : WellMade l → c < components l → AllPass 64 (λ e. alike ((l.component c).knows e) (set e)) → AlphabetKnown l c
  known-all M lt h e =
      elim (cases_lt e 64) [
        | inl small ↦ alike-eq ((l.component c).knows e) (set e) (h e small) ∙ same e
        | inr ge ↦
            let unknown : (l.component c).knows e ≡ false = elim (cases_Bool ((l.component c).knows e)) [ inl t ↦ absurd (omega (arith, (M.formed c lt).events e t)) | inr f ↦ f ] in
            unknown ∙ sym (alphabet-outside l c e (omega (arith, M.charted.few_events)))
      ]

  pub known-not : (e : ℕ) → FirstOff 64 (λ e. alike ((l.component c).knows e) (set e)) e → Witness l (alphabet_known c) 0 (Some e)
  known-not e f = record {
    fails = (refl, λ q. never (eq-alike ((l.component c).knows e) (set e) (q ∙ sym (same e))) f.off);
    least_state = λ i lt. absurd (omega arith);
    least_event = λ d i q lt (z, ne). let b : e ≡ i = cc in ne (alike-eq ((l.component c).knows d) (set d) (f.before d (omega arith)) ∙ same d);
  }
