-- What a generator means. Assumes nothing.
use Rattle.std.specs.Prelude.{◌≡◌, ℕ, ◌<◌, ◌≤◌, Bool, true, false, cond, not, ◌||◌, List, [], ◌∷◌}
use Rattle.model.specs.declared.next.Next.{Next}
use Rattle.model.specs.declared.next.Next.TheVariants.{Foreign, Forbidden, To}

-- the meaning of a generator: its count of states, its initial state, its alphabet, its marked states and its partial move.
-- States are the numbers below the count.
pub record Gen : Type 0 where
  pub count : ℕ
  pub initial : ℕ
  pub knows : ℕ → Bool
  pub marked : ℕ → Bool
  pub next : ℕ → ℕ → Next

-- what every generator keeps to
pub record WellFormed (g : Gen) : Type 0 where
  pub some : 1 ≤ g.count
  pub few : g.count ≤ 4096
  pub begins : g.initial < g.count
  pub events : (e : ℕ) → g.knows e ≡ true → e < 64
  pub marks : (s : ℕ) → g.marked s ≡ true → s < g.count
  pub foreign : (s e : ℕ) → g.knows e ≡ false → g.next s e ≡ Foreign
  pub known : (s e : ℕ) → g.next s e ≡ Foreign → g.knows e ≡ false
  pub inside : (s e t : ℕ) → g.next s e ≡ To t → t < g.count
  pub beyond : (s e : ℕ) → g.knows e ≡ true → g.count ≤ s → g.next s e ≡ Forbidden

-- what a bank replies beyond its end: 0, no and foreign
abbrev pub nothing : Gen
nothing = record {
  count = 0;
  initial = 0;
  knows = λ e. false;
  marked = λ s. false;
  next = λ s e. Foreign;
}

-- each generator of the list is well formed
abbrev pub AllFormed : List Gen → Type 0
AllFormed [] = Unit {0}
AllFormed (g ∷ gs) = WellFormed g × AllFormed gs

abbrev pub is_to : Next → Bool
is_to Foreign = false
is_to Forbidden = false
is_to (To t) = true

abbrev pub target : Next → ℕ → ℕ
target Foreign s = s
target Forbidden s = s
target (To t) s = t

-- the event is known and has a move
abbrev pub permits : Gen → ℕ → ℕ → Bool
permits g s e = is_to (g.next s e)

-- the event is known and has no move
abbrev pub forbids : Gen → ℕ → ℕ → Bool
forbids g s e = not (not (g.knows e) || permits g s e)

-- where the event leaves the generator: moved if it is known and permitted, else where it was
abbrev pub moves : Gen → ℕ → ℕ → ℕ
moves g s e = cond (g.knows e) (target (g.next s e) s) s
