-- A small line file, byte by byte, and what is to be told of it and of damaged copies. Assumes nothing.
use Rattle.std.specs.Prelude.{◌≡◌, ℕ, ◌≤◌, List, [], ◌∷◌, length, take, Some, None, Ok, slice_set}
use Rattle.model.specs.Faults.{fields, fields_of}
use Rattle.model.specs.declared.fault.Layer.TheVariants.{File, Body as BodyLayer, Check, Run}
use Rattle.model.specs.declared.fault.Fields.{Fields}
use Rattle.model.specs.declared.fault.Fault.{Fault}
use Rattle.model.specs.declared.fault.Fault.TheVariants.{Header, Contents, Body, Alphabet, Point, EventNumber, Refused}
use Rattle.hisc.specs.Lines.{Line, initial}
use Rattle.hisc.specs.Sizes.{Cells, bound}
use Rattle.hisc.specs.Calls.{Offer, accepted, refused as refusal, replies}
use Rattle.hisc.specs.Law.{followed, led_home}
use Rattle.verdicts.specs.Verdicts.{FileLine, the_line, line_reading, passed, faulty, VerdictOn, OneTold}

-- the file of one low level and four events, 113 bytes
abbrev pub small_file : List ℕ
small_file =
    -- the first byte of every file, the number of low levels, the number of events
    1 ∷ 1 ∷ 4 ∷
    -- contents: where the event body and the components 0 to 4 start, and how long they are
    0 ∷ 27 ∷ 0 ∷ 12 ∷
    0 ∷ 39 ∷ 0 ∷ 22 ∷
    0 ∷ 61 ∷ 0 ∷ 12 ∷
    0 ∷ 73 ∷ 0 ∷ 22 ∷
    0 ∷ 95 ∷ 0 ∷ 12 ∷
    0 ∷ 107 ∷ 0 ∷ 6 ∷
    -- 27: the events are H 0 c, R 1 c, A 1 u and L 1 u
    72 ∷ 0 ∷ 99 ∷
    82 ∷ 1 ∷ 99 ∷
    65 ∷ 1 ∷ 117 ∷
    76 ∷ 1 ∷ 117 ∷
    -- 39: the high plant, a table of 3 states from state 0, with the letters +++- and the marks m--; event 0 leads from 0 to 1, 1 to 2, 2 back to 0
    84 ∷ 3 ∷ 0 ∷
    43 ∷ 43 ∷ 43 ∷ 45 ∷
    109 ∷ 45 ∷ 45 ∷
    1 ∷ 255 ∷ 255 ∷ 255 ∷
    255 ∷ 2 ∷ 255 ∷ 255 ∷
    255 ∷ 255 ∷ 0 ∷ 255 ∷
    -- 61: the high supervisor, a table of one marked state that knows nothing
    84 ∷ 1 ∷ 0 ∷
    45 ∷ 45 ∷ 45 ∷ 45 ∷
    109 ∷
    255 ∷ 255 ∷ 255 ∷ 255 ∷
    -- 73: the plant of level 1, a table of 3 states from state 0, with the letters -+++ and the marks m--; event 1 leads from 0 to 1, 3 to 2, 2 back to 0
    84 ∷ 3 ∷ 0 ∷
    45 ∷ 43 ∷ 43 ∷ 43 ∷
    109 ∷ 45 ∷ 45 ∷
    255 ∷ 1 ∷ 255 ∷ 255 ∷
    255 ∷ 255 ∷ 255 ∷ 2 ∷
    255 ∷ 255 ∷ 0 ∷ 255 ∷
    -- 95: the supervisor of level 1, as the high one
    84 ∷ 1 ∷ 0 ∷
    45 ∷ 45 ∷ 45 ∷ 45 ∷
    109 ∷
    255 ∷ 255 ∷ 255 ∷ 255 ∷
    -- 107: the interface, a stock: event 1 leads from 0 to 1, and 2 back
    73 ∷ 0 ∷ 1 ∷ 255 ∷ 2 ∷ 255 ∷ []

-- each of the three slices has at least n work cells
pub record AtLeast (n : ℕ) (cells : Cells) : Type 0 where
  pub first : n ≤ cells.first
  pub second : n ≤ cells.second
  pub third : n ≤ cells.third

-- The file cannot be read: whatever the work cells, the fault is told, and it has these seven fields.
pub record ReadFault (file : List ℕ) (f : Fault) (shown : Fields) : Type 0 where
  pub told : (cells : Cells) → VerdictOn file cells (faulty f)
  pub shows : fields_of f ≡ shown

-- The file is read, and the check refuses its line: with six work cells in each slice, the fault is told, and it has these seven fields.
pub record CheckFault (file : List ℕ) (f : Fault) (shown : Fields) : Type 0 where
  pub line : FileLine
  pub read : line_reading file ≡ Ok line
  pub told : (cells : Cells) → AtLeast 6 cells → VerdictOn file cells (faulty f)
  pub shows : fields_of f ≡ shown

-- how the small line runs
pub record SmallRuns (l : Line) : Type 0 where
  -- at the start event 3 is refused by component 2, and 4 is no event
  pub refusals : replies l (initial l) (Offer 3 ∷ Offer 4 ∷ []) ≡ refusal (Refused 2 3) ∷ refusal (EventNumber 4) ∷ []
  -- the seven fields of both refusals
  pub refused_shows : fields_of (Refused 2 3) ≡ fields 22 Run 255 255 2 255 3
  pub number_shows : fields_of (EventNumber 4) ≡ fields 21 Run 255 255 255 255 4
  -- after event 0 the guide, followed, names 1, 3 and 2, and then says home
  pub led : (cells : Cells) → AtLeast 6 cells →
      replies l (initial l) (Offer 0 ∷ followed cells (1 ∷ 3 ∷ 2 ∷ [])) ≡ accepted ∷ led_home (1 ∷ 3 ∷ 2 ∷ [])
  -- the bound on the guide's offers
  pub most_offers : bound l ≡ 71

-- what is to be told of the small file and of its damaged copies, and how its line runs
pub record WorkedEntries : Type 0 where
  -- of each file one thing at most is to be told
  pub one_told : OneTold
  -- the small file has 113 bytes
  pub size : length small_file ≡ 113
  -- the whole file: passed, with 6 states of the high walk and 6 of the low one
  pub whole : (cells : Cells) → AtLeast 6 cells → VerdictOn small_file cells (passed 6 (6 ∷ []))
  -- byte 90 from 2 to 255, so that the plant lacks the L event: no word leads to the answer 2 after the request
  pub lost_answer : CheckFault (slice_set small_file 90 255) (Point 5 1 4 (Some 2)) (fields 14 Check 5 1 255 4 2)
  -- byte 80 to -, so that no state of the plant is marked: no word of L events leads to rest
  pub unmarked_plant : CheckFault (slice_set small_file 80 45) (Point 6 1 0 None) (fields 14 Check 6 1 255 0 255)
  -- byte 111 from 2 to 3, so that the interface knows event 3 and not 2
  pub wrong_answer : CheckFault (slice_set small_file 111 3) (Alphabet 1 4 2) (fields 14 Check 1 1 4 255 2)
  -- the last byte is missing, so that the last body runs past the end
  pub cut : ReadFault (take 112 small_file) (Contents 25) (fields 2 File 255 255 255 25 255)
  -- no bytes
  pub empty : ReadFault [] (Header 0) (fields 1 File 255 255 255 0 255)
  -- byte 74 to 0: the plant has no state
  pub no_states : ReadFault (slice_set small_file 74 0) (Body (Some 2) 74) (fields 5 BodyLayer 255 255 2 74 255)
  -- the line that the whole file means runs so
  pub runs : (m : FileLine) → line_reading small_file ≡ Ok m → SmallRuns (the_line m)
