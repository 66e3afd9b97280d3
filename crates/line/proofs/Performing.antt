-- A queue of calls, performed in turn. Assumes nothing.
use Rattle.std.proofs.Common.{◌≡◌, ℕ, ◌+◌, ◌<◌, ◌≤◌, Bool, true, false, cond, List, ◌∷◌, map, Ok, Err, Result, is_err, length, get_or, drop, sym, refl, ap, ◌∙◌, arith}
use Rattle.std.proofs.lemmas.List.{drop_more, drop_all}
use Rattle.model.specs.declared.fault.Fault.{Fault}
use Rattle.generators.specs.declared.bank.Bank.{Ghosts}
use Rattle.hisc.specs.Calls.{Call, Reply, reply, next, after, replies}
use Rattle.hisc.specs.Lines.{Line, State}
use Rattle.hisc.specs.Sizes.{Cells}
use Rattle.walks.specs.Given.{line_given}
use Rattle.line.specs.Answers.{line_in, state_in, Answered}
use Rattle.line.specs.Queues.{call_of, reply_of, is_refused, refusals, Performed}
use Rattle.line.specs.declared.queue.Call.{Call as CallGiven}
use Rattle.line.specs.declared.queue.Reply.{Reply as ReplyGiven}
use Rattle.line.specs.declared.queue.Reply.TheVariants.{Accepted, Guided, Listed, Shown, Restarted}
use Rattle.line.specs.declared.running.Running.{Running}

abbrev pub one_if : Bool → ℕ
one_if b = cond b 1 0

-- the errors are what stands for refusals
pub refused-is : (out : List ℕ) (r : Result ReplyGiven Fault) → is_refused (reply_of out r) ≡ is_err r
refused-is out (Ok Accepted) = refl
refused-is out (Ok (Guided g)) = refl
refused-is out (Ok (Listed k)) = refl
refused-is out (Ok (Shown row)) = refl
refused-is out (Ok Restarted) = refl
refused-is out (Err f) = refl

module _ {B : Type 0} {gh : Ghosts B} (first : Running B gh) (bytes : ℕ) (cells : Cells) (queue : List CallGiven) where
  abbrev line : Line
  line = line_in first

  abbrev calls : List CallGiven → List Call
  calls q = map (call_of bytes cells) q

  -- the first i calls are performed, and count of them were refused
  pub record Performing (now : Running B gh) (used : Cells) (i count : ℕ) : Type 0 where
    pub lent : used ≡ cells
    pub few : count ≤ i
    pub same_line : now.passed.line ≡ first.passed.line
    pub left : after line (state_in now) (calls (drop i queue)) ≡ after line (state_in first) (calls queue)
    pub counted : count + refusals (replies line (state_in now) (calls (drop i queue))) ≡ refusals (replies line (state_in first) (calls queue))

  pub performing-none : Performing first cells 0 0
  performing-none = record { lent = refl; few = omega arith; same_line = refl; left = refl; counted = omega arith }

  pub performing-more : (now then : Running B gh) (i count : ℕ) (d : CallGiven) (room : ℕ) (used left : Cells) → room ≡ bytes → left ≡ used → (answer : Reply) (b : Bool) → is_refused answer ≡ b → i < length queue →
      Answered now then (call_of room used (get_or queue i d)) answer → Performing now used i count → Performing then left (i + 1) (count + one_if b)
  performing-more now then i count d room used left same-room kept answer b is lt a p =
      record {
        lent = kept ∙ p.lent;
        few = most b;
        same_line = a.same_line ∙ p.same_line;
        left = ap (λ (y : State). after line y (calls rest)) moved ∙ sym (ap (λ (w : List CallGiven). after line x (calls w)) here) ∙ p.left;
        counted = omega (arith, ap (λ (y : State). refusals (replies line y (calls rest))) moved, ap (λ (w : List CallGiven). refusals (replies line x (calls w))) here, p.counted, one);
      }
    where
      rest : List CallGiven
      rest = drop (i + 1) queue

      call : Call
      call = call_of bytes cells (get_or queue i d)

      here : drop i queue ≡ get_or queue i d ∷ rest
      here = drop_more queue i d lt

      made : call_of room used (get_or queue i d) ≡ call
      made = ap (λ (n : ℕ). call_of n used (get_or queue i d)) same-room ∙ ap (λ (k : Cells). call_of bytes k (get_or queue i d)) p.lent

      x : State
      x = state_in now

      same : line_in now ≡ line
      same = ap (line_given gh.list) p.same_line

      moved : state_in then ≡ next line x call
      moved = a.moves ∙ ap (λ (k : Call). next (line_in now) x k) made ∙ ap (λ (l : Line). next l x call) same

      one : one_if (is_refused (reply line x call)) ≡ one_if b
      one =
          ap (λ (s : Reply). one_if (is_refused s)) (sym (a.told ∙ ap (λ (k : Call). reply (line_in now) x k) made ∙ ap (λ (l : Line). reply l x call) same))
          ∙ ap one_if is

      most : (t : Bool) → count + one_if t ≤ i + 1
      most t = elim t as (λ t. count + one_if t ≤ i + 1) [ true ↦ omega (arith, p.few) | false ↦ omega (arith, p.few) ]

  pub performing-all : (now : Running B gh) (used : Cells) (i count : ℕ) → length queue ≤ i → Performing now used i count → Performed first now bytes cells queue count
  performing-all now used i count ge p =
      let none = drop_all i queue ge in
      record {
        counted = omega (arith, ap (λ (w : List CallGiven). refusals (replies line (state_in now) (calls w))) none, p.counted);
        same_line = p.same_line;
        moves = sym (ap (λ (w : List CallGiven). after line (state_in now) (calls w)) none) ∙ p.left;
      }
