-- What a way home is. Assumes nothing.
use Rattle.std.specs.Prelude.{◌≡◌, ℕ, ◌≤◌, true, false, List, length, Ok, Err, Result}
use Rattle.model.specs.declared.fault.Fault.{Fault}
use Rattle.model.specs.declared.fault.Fault.TheVariants.{WorkCells}
use Rattle.model.specs.declared.fault.Layer.TheVariants.{Run}
use Rattle.generators.specs.declared.bank.Bank.{Ghosts}
use Rattle.hisc.specs.Calls.{after, replies}
use Rattle.hisc.specs.Law.{followed, led_home}
use Rattle.hisc.specs.Lines.{flat, marked}
use Rattle.hisc.specs.Sizes.{Cells, enough, bound}
use Rattle.line.specs.Answers.{line_in, state_in}
use Rattle.line.specs.declared.running.Running.{Running}

module _ {B : Type 0} {g : Ghosts B} where
  -- the guide was asked and what it named was offered, in turn: each offer was accepted, they were at most `bound`, and at last home was said
  -- with every component marked
  pub record WentHome (before last : Running B g) (cells : Cells) (offers : ℕ) : Type 0 where
    pub word : List ℕ
    pub counted : length word ≡ offers
    pub short : offers ≤ bound (line_in before)
    pub named : replies (line_in before) (state_in before) (followed cells word) ≡ led_home word
    pub same_line : last.passed.line ≡ before.passed.line
    pub moves : state_in last ≡ after (line_in before) (state_in before) (followed cells word)
    pub home : marked (line_in before) (flat (line_in before)) (state_in last) ≡ true

  -- the guide was refused for want of work cells, and the line stands where it stood
  pub record NotGuided (before last : Running B g) (cells : Cells) (fault : Fault) : Type 0 where
    pub refusal : fault ≡ WorkCells Run
    pub few : enough (line_in before) cells ≡ false
    pub same_line : last.passed.line ≡ before.passed.line
    pub stays : state_in last ≡ state_in before

  abbrev pub Homeward : Running B g → Running B g → Cells → Result ℕ Fault → Type 0
  Homeward before last cells (Ok offers) = WentHome before last cells offers
  Homeward before last cells (Err fault) = NotGuided before last cells fault
