-- The seven fields of each fault: number, layer, point, level, component, place, event. Assumes nothing.
use Rattle.std.specs.Prelude.{ℕ, List, ◌∷◌, ◌++◌, Some, None, Option, decimal}
use Rattle.model.specs.declared.fault.Layer.{Layer}
use Rattle.model.specs.declared.fault.Layer.TheVariants.{File, Body as BodyLayer, Check, Run}
use Rattle.model.specs.declared.fault.Point.{Point as StatePoint}
use Rattle.model.specs.declared.fault.Point.TheVariants.{CommandPair, AnswersAccepted, RequestsAccepted, AnswersReachable, RestReachable, LowNonblocking, HighNonblocking, LowControllable, HighControllable}
use Rattle.model.specs.declared.fault.Fields.{Fields}
use Rattle.model.specs.declared.fault.Fault.{Fault}
use Rattle.model.specs.declared.fault.Fault.TheVariants.{Header, Contents, Event, Level, Body, Components, WalkSize, WorkCells, Alphabet, Point, EventNumber, Refused, PossibleSlice}

-- the letters F, B, C and R
abbrev pub letter_of : Layer → ℕ
letter_of File = 70
letter_of BodyLayer = 66
letter_of Check = 67
letter_of Run = 82

-- the place of each point among the ten; the first is the alphabet's, and fails at no state
abbrev pub number_of : StatePoint → ℕ
number_of CommandPair = 2
number_of AnswersAccepted = 3
number_of RequestsAccepted = 4
number_of AnswersReachable = 5
number_of RestReachable = 6
number_of LowNonblocking = 7
number_of HighNonblocking = 8
number_of LowControllable = 9
number_of HighControllable = 10

-- a field that is not used is 255
abbrev pub or_unused : Option ℕ → ℕ
or_unused (Some n) = n
or_unused None = 255

-- the seven fields in their order
abbrev pub fields : ℕ → Layer → ℕ → ℕ → ℕ → ℕ → ℕ → Fields
fields n l p v c a e = record { number = n; layer = l; point = p; level = v; component = c; place = a; event = e }

abbrev pub fields_of : Fault → Fields
fields_of (Header place) = fields 1 File 255 255 255 place 255
fields_of (Contents place) = fields 2 File 255 255 255 place 255
fields_of (Event place) = fields 3 File 255 255 255 place 255
fields_of (Level level) = fields 4 File 255 level 255 255 255
fields_of (Body component place) = fields 5 BodyLayer 255 255 (or_unused component) place 255
fields_of Components = fields 11 Check 255 255 255 255 255
fields_of (WalkSize level) = fields 12 Check 255 level 255 255 255
fields_of (WorkCells layer) = fields 13 layer 255 255 255 255 255
fields_of (Alphabet level component event) = fields 14 Check 1 level component 255 event
fields_of (Point point level state event) = fields 14 Check point level 255 state (or_unused event)
fields_of (EventNumber event) = fields 21 Run 255 255 255 255 event
fields_of (Refused component event) = fields 22 Run 255 255 component 255 event
fields_of PossibleSlice = fields 23 Run 255 255 255 255 255

-- the seven fields as they are written, with single spaces between
abbrev pub text_of : Fields → List ℕ
text_of f =
    decimal f.number ++ 32 ∷ letter_of f.layer ∷ 32 ∷ decimal f.point ++ 32 ∷ decimal f.level ++ 32 ∷ decimal f.component ++
    32 ∷ decimal f.place ++ 32 ∷ decimal f.event
