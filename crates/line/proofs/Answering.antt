-- What the calls of a running line come to. Assumes nothing.
use Rattle.std.proofs.Common.{◌≡◌, ℕ, Bool, true, false, cond, Ok, Err, Result, is_ok, sym, refl, ap, ◌∙◌, inl, inr, arith}
use Rattle.std.proofs.lemmas.Bool.{cases_Bool}
use Rattle.model.specs.declared.fault.Fault.{Fault}
use Rattle.model.proofs.Finds.{never}
use Rattle.generators.specs.declared.bank.Bank.{Ghosts}
use Rattle.hisc.specs.Calls.{Call, Offer, Look, Reply, accepted, states, refused, offer_reply, reply, next}
use Rattle.hisc.specs.Lines.{Line, State, flat, moved, possible}
use Rattle.hisc.proofs.Replies.{possible_accepted, accepted_possible, calls-agree}
use Rattle.walks.specs.declared.row.Row.{Row}
use Rattle.line.specs.Answers.{shown, line_in, state_in, Answered}
use Rattle.line.specs.Checked.{Runs}
use Rattle.line.specs.Steps.{Stepped}
use Rattle.line.specs.declared.running.Running.{Running}
use Rattle.line.proofs.Known.{runs_in}
use Rattle.line.proofs.Rows.{assured-of}

-- an event that is refused is not possible
refused-impossible : (l : Line) (x : State) (e : ℕ) (f : Fault) → offer_reply l x e ≡ refused f → possible l (flat l) x e ≡ false
refused-impossible l x e f h =
    elim (cases_Bool (possible l (flat l) x e)) [
      | inl t ↦ let q = possible_accepted l x e t in let z : ◌≡◌ {A = ℕ} 0 1 = cc in absurd (omega arith)
      | inr n ↦ n
    ]

module _ {B : Type 0} {gh : Ghosts B} where
  -- a call that changes nothing
  pub answered-same : (s : Running B gh) (call : Call) (answer : Reply) → answer ≡ reply (line_in s) (state_in s) call →
      state_in s ≡ next (line_in s) (state_in s) call → Answered s s call answer
  answered-same s call answer told moves = record {
    told = told;
    same_line = refl;
    moves = moves;
    assured = assured-of gh.list s.passed.line (gh.formed s.passed.line.bank) s.row (runs_in s);
  }

  -- an event is possible exactly if a step by it gives a row
  module _ (s : Running B gh) (e : ℕ) where
    pub stepped-possible : (r : Result Row Fault) → is_ok r ≡ true → Stepped gh.list s.passed.line (state_in s) e r → possible (line_in s) (flat (line_in s)) (state_in s) e ≡ true
    stepped-possible (Ok row) t h = accepted_possible (line_in s) (state_in s) e h.0
    stepped-possible (Err f) t h = never t refl

    pub stepped-impossible : (r : Result Row Fault) → is_ok r ≡ false → Stepped gh.list s.passed.line (state_in s) e r → possible (line_in s) (flat (line_in s)) (state_in s) e ≡ false
    stepped-impossible (Ok row) n h = never refl n
    stepped-impossible (Err f) n h = refused-impossible (line_in s) (state_in s) e f h

  -- a call that puts a row
  pub answered-put : (before after : Running B gh) → after.passed.line ≡ before.passed.line → Runs gh.list before.passed.line after.row →
      (call : Call) (answer : Reply) → answer ≡ reply (line_in before) (state_in before) call →
      state_in after ≡ next (line_in before) (state_in before) call → Answered before after call answer
  answered-put before after same r call answer told moves = record {
    told = told;
    same_line = same;
    moves = moves;
    assured = assured-of gh.list before.passed.line (gh.formed before.passed.line.bank) after.row r;
  }

  pub answered-look : (s : Running B gh) → Answered s s Look (shown s.row)
  answered-look s = answered-same s Look (shown s.row) (ap states (runs_in s).shown) refl

  pub answered-refused : (s : Running B gh) (e : ℕ) (f : Fault) → Stepped gh.list s.passed.line (state_in s) e (Err f) → Answered s s (Offer e) (refused f)
  answered-refused s e f h = answered-same s (Offer e) (refused f) (sym h) (sym ((calls-agree (line_in s)).refused_stays (state_in s) (Offer e) f h))

  pub answered-accepted : (before after : Running B gh) → after.passed.line ≡ before.passed.line → (e : ℕ) →
      Stepped gh.list before.passed.line (state_in before) e (Ok after.row) → Answered before after (Offer e) accepted
  answered-accepted before after same e h =
      answered-put before after same h.2 (Offer e) accepted (sym h.0)
      (h.1 ∙ sym (ap (λ (b : Bool). cond b (moved (line_in before) (state_in before) e) (state_in before)) (accepted_possible (line_in before) (state_in before) e h.0)))
