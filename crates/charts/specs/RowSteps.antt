-- One event row, and the sets that the rows so far give. Assumes nothing.
use Rattle.std.specs.Prelude.{◌≡◌, ℕ, ◌+◌, ◌*◌, ◌<◌, ◌≤◌, true, ◌&&◌, ◌||◌, List, Ok, Err, Result, ◌==◌, nat_lt, slice_index}
use Rattle.model.specs.Charts.{is_request, is_answer}
use Rattle.model.specs.Kinds.{is_kind, kind_of}
use Rattle.model.specs.Readings.{provided}
use Rattle.model.specs.Sets.{member}
use Rattle.model.specs.declared.fault.Fault.{Fault}
use Rattle.model.specs.declared.fault.Fault.TheVariants.{Event}
use Rattle.charts.specs.Rows.{owner_fits, is_control, byte_fits, first_wrong}
use Rattle.charts.specs.Sets.{owned_by}
use Rattle.charts.specs.declared.chart.Sets.{Sets}
use Rattle.charts.specs.declared.chart.rows.Row.{Row}

-- the reading of a row that begins at `place`: its first wrong byte, or what it says
abbrev pub row_reading : (levels kind owner control place : ℕ) → Result Row Fault
row_reading levels kind owner control place =
    provided (is_kind kind) (Event place)
    (provided (owner_fits levels kind owner) (Event (place + 1))
    (provided (is_control control) (Event (place + 2))
    (Ok (record { kind = kind_of kind; owner = owner; uncontrollable = (control == 117) }))))

-- the sets with one event more
pub record Added (before after : Sets) (event : ℕ) (row : Row) : Type 0 where
  pub owned : (j e : ℕ) → j ≤ 8 → owned_by after.owned j e ≡ (owned_by before.owned j e || (e == event && row.owner == j))
  pub requests : (e : ℕ) → member after.requests.word e ≡ (member before.requests.word e || (e == event && is_request row.kind))
  pub answers : (e : ℕ) → member after.answers.word e ≡ (member before.answers.word e || (e == event && is_answer row.kind))
  pub uncontrollable : (e : ℕ) → member after.uncontrollable.word e ≡ (member before.uncontrollable.word e || (e == event && row.uncontrollable))

-- the sets have what the rows before row `count` say
pub record Gathered (rows : List ℕ) (count : ℕ) (sets : Sets) : Type 0 where
  pub owned : (j e : ℕ) → j ≤ 8 → owned_by sets.owned j e ≡ (nat_lt e count && slice_index rows (3 * e + 1) == j)
  pub requests : (e : ℕ) → member sets.requests.word e ≡ (nat_lt e count && is_request (kind_of (slice_index rows (3 * e))))
  pub answers : (e : ℕ) → member sets.answers.word e ≡ (nat_lt e count && is_answer (kind_of (slice_index rows (3 * e))))
  pub uncontrollable : (e : ℕ) → member sets.uncontrollable.word e ≡ (nat_lt e count && slice_index rows (3 * e + 2) == 117)

-- the bytes before row `count` are right
abbrev pub RightBytes : (levels : ℕ) (rows : List ℕ) (count : ℕ) → Type 0
RightBytes levels rows count = (i : ℕ) → i < 3 * count → byte_fits levels rows i ≡ true

-- what reading the rows of all events gives: their sets, or the fault at the first wrong byte
abbrev pub RowsRead : (levels events : ℕ) (rows : List ℕ) (origin : ℕ) → Result Sets Fault → Type 0
RowsRead levels events rows origin (Ok sets) = Gathered rows events sets × RightBytes levels rows events
RowsRead levels events rows origin (Err fault) = (fault ≡ Event (origin + first_wrong levels events rows)) × (first_wrong levels events rows < 3 * events)
