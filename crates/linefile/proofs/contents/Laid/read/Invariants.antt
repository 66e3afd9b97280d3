use Rattle.std.proofs.Common.{◌≡◌, ℕ, ◌+◌, ◌*◌, ◌<◌, ◌≤◌, [], length, get_or, Ok}
use Rattle.model.specs.Readings.{in_turn}
use Rattle.linefile.specs.Layout.{rows, body_start, body_of, row_reading, texts}
use Rattle.linefile.proofs.contents.Laid.read.Given as goal

abbrev pub invariant-loop-left : goal.invariant-loop-left
invariant-loop-left l =
    (length l.left + 4 * l.row ≡ 4 * rows l.fn.header.levels)
    × (l.end ≤ length l.file)
    × (length l.bodies ≡ 27)
    × ((j : ℕ) → j < length l.left → get_or l.left j 0 ≡ get_or l.file (3 + 4 * l.row + j) 0)
    × ((i : ℕ) → i < l.row → get_or (texts l.bodies) i [] ≡ body_of l.fn.header.levels l.file i)
    × (l.end ≡ body_start l.fn.header.levels l.file l.row)
    × (in_turn (row_reading l.fn.header.levels l.file) l.row ≡ Ok tt)

abbrev pub decreases-loop-left : goal.decreases-loop-left
decreases-loop-left l = length l.left
