-- What an event body says: a row of three bytes for each event, with its kind letter, its owner as a number and its control letter. Assumes nothing.
use Rattle.std.specs.Prelude.{ℕ, suc, ◌+◌, ◌-◌, ◌*◌, ◌%◌, Bool, cond, ◌&&◌, ◌||◌, List, length, drop, Ok, Result, ◌==◌, nat_le, nat_lt, slice_index}
use Rattle.model.specs.Charts.{EventChart, owns_request, owns_answer}
use Rattle.model.specs.Kinds.{is_kind, kind_of}
use Rattle.model.specs.Readings.{first_off, provided, and_then}
use Rattle.model.specs.declared.fault.Fault.{Fault}
use Rattle.model.specs.declared.fault.Fault.TheVariants.{Contents, Event, Level}
use Rattle.model.specs.declared.kind.Kind.TheVariants.{Low}
use Rattle.charts.specs.Headers.{header_reading}

-- an H event has owner 0, any other one of the low levels
abbrev pub owner_fits : (levels letter owner : ℕ) → Bool
owner_fits levels letter owner = cond (letter == 72) (owner == 0) (nat_le 1 owner && nat_le owner levels)

-- the control letters are c (99), controllable, and u (117), uncontrollable
abbrev pub is_control : ℕ → Bool
is_control letter = letter == 99 || letter == 117

-- the byte at place i of the event body is right
unfoldable pub byte_fits : (levels : ℕ) (rows : List ℕ) → ℕ → Bool
byte_fits levels rows i =
    cond (i % 3 == 0) (is_kind (slice_index rows i))
    (cond (i % 3 == 1) (owner_fits levels (slice_index rows (i - 1)) (slice_index rows i))
    (is_control (slice_index rows i)))

-- the place of the first wrong byte; the number of bytes if none is wrong
unfoldable pub first_wrong : (levels events : ℕ) (rows : List ℕ) → ℕ
first_wrong levels events rows = first_off (3 * events) (byte_fits levels rows)

-- the chart that the rows say; beyond the last event the kind is Low, the owner 0 and nothing is uncontrollable
unfoldable pub chart_in : (levels events : ℕ) (rows : List ℕ) → EventChart
chart_in levels events rows = record {
  levels = levels;
  events = events;
  kind = λ e. cond (nat_lt e events) (kind_of (slice_index rows (3 * e))) Low;
  owner = λ e. cond (nat_lt e events) (slice_index rows (3 * e + 1)) 0;
  uncontrollable = λ e. nat_lt e events && (slice_index rows (3 * e + 2) == 117);
}

-- the lowest low level that lacks a request or an answer; one more than the number of levels if none does
unfoldable pub lacking : EventChart → ℕ
lacking c = suc (first_off c.levels (λ k. owns_request c (suc k) && owns_answer c (suc k)))

-- the chart, provided that each low level owns a request and an answer
abbrev pub completed : EventChart → Result EventChart Fault
completed c = provided (nat_lt c.levels (lacking c)) (Level (lacking c)) (Ok c)

-- the reading of an event body that begins at place `origin` of what was handed in: faults in their length, then at the first wrong byte, then of
-- the lowest level that lacks an event
unfoldable pub rows_reading : (levels events : ℕ) (rows : List ℕ) (origin : ℕ) → Result EventChart Fault
rows_reading levels events rows origin =
    provided (nat_le (3 * events) (length rows)) (Contents (origin + length rows))
    (provided (nat_le (length rows) (3 * events)) (Contents (origin + 3 * events))
    (provided (first_wrong levels events rows == 3 * events) (Event (origin + first_wrong levels events rows))
    (completed (chart_in levels events rows))))

-- the reading of a chart in code: the header and then the event body
unfoldable pub chart_reading : List ℕ → Result EventChart Fault
chart_reading bytes = and_then (header_reading bytes) (λ sizes. rows_reading sizes.levels sizes.events (drop 3 bytes) 3)
