-- What a line with the ten points keeps to, whatever is called. Assumes nothing.
use Rattle.std.specs.Prelude.{◌≡◌, ℕ, suc, ◌<◌, ◌≤◌, true, false, List, [], ◌∷◌, ◌++◌, length}
use Rattle.model.specs.Charts.{IsLevel}
use Rattle.hisc.specs.declared.guide.Guidance.TheVariants.{Home, NoEvent, Event}
use Rattle.hisc.specs.Lines.{Line, WellMade, State, high_plant, plant, flat, initial, moved, possible, marked, Reached}
use Rattle.hisc.specs.Sizes.{Cells, enough, bound}
use Rattle.hisc.specs.Points.{forbidden, Points}
use Rattle.hisc.specs.Guide.{guide}
use Rattle.hisc.specs.Calls.{Call, Offer, Guide, Reply, accepted, guidance, after, replies}

-- the guide is asked and what it names is offered, in turn, and at last it is asked once more
abbrev pub followed : Cells → List ℕ → List Call
followed cells [] = Guide cells ∷ []
followed cells (e ∷ w) = Guide cells ∷ Offer e ∷ followed cells w

-- each event was named and accepted, and at last home was said
abbrev pub led_home : List ℕ → List Reply
led_home [] = guidance Home ∷ []
led_home (e ∷ w) = guidance (Event e) ∷ accepted ∷ led_home w

module _ (l : Line) where
  -- every plant that knows e permits it
  pub record PlantsPermit (x : State) (e : ℕ) : Type 0 where
    pub top : forbidden l high_plant x e ≡ false
    pub levels : (j : ℕ) → IsLevel l.chart j → forbidden l (plant j) x e ≡ false

  -- the word that the guide gives after a queue of calls: at most `bound` events, each named and accepted, then home is said,
  -- and every component is marked
  pub record LedHome (cells : Cells) (q : List Call) : Type 0 where
    pub word : List ℕ
    pub short : length word ≤ bound l
    pub named : replies l (initial l) (q ++ followed cells word) ≡ replies l (initial l) q ++ led_home word
    pub home : marked l (flat l) (after l (initial l) (q ++ followed cells word)) ≡ true

  -- the law over every queue of calls after the making, and so at each moment of it
  pub record Law : Type 0 where
    -- with work cells enough, the guide leads home
    pub led_home : (cells : Cells) → enough l cells ≡ true → (q : List Call) → LedHome cells q
    -- home is said exactly if every component is marked
    pub home_marked : (q : List Call) → guide l (after l (initial l) q) ≡ Home → marked l (flat l) (after l (initial l) q) ≡ true
    pub marked_home : (q : List Call) → marked l (flat l) (after l (initial l) q) ≡ true → guide l (after l (initial l) q) ≡ Home
    -- an uncontrollable event that every plant that knows it permits is accepted
    pub free : (q : List Call) (e : ℕ) → e < l.chart.events → l.chart.uncontrollable e ≡ true →
        PlantsPermit (after l (initial l) q) e →
        replies l (initial l) (q ++ (Offer e ∷ [])) ≡ replies l (initial l) q ++ (accepted ∷ [])

  -- the same of one state.
  -- Home is said after at most k offers, each named by the guide and accepted.
  pub data HomeWithin : ℕ → State → Type 0 where
    there : {k : ℕ} {x : State} → guide l x ≡ Home → HomeWithin k x
    onward : {k : ℕ} {x : State} (e : ℕ) → guide l x ≡ Event e → possible l (flat l) x e ≡ true → HomeWithin k (moved l x e) → HomeWithin (suc k) x

  -- what holds of a state, whatever is called next
  pub record Assured (x : State) : Type 0 where
    -- the guide leads home within the bound
    pub home_within : HomeWithin (bound l) x
    -- what each of its answers means: home, every component is marked; an event, it would be accepted; no event is never the answer
    pub home_marked : guide l x ≡ Home → marked l (flat l) x ≡ true
    pub marked_home : marked l (flat l) x ≡ true → guide l x ≡ Home
    pub named_possible : (e : ℕ) → guide l x ≡ Event e → possible l (flat l) x e ≡ true
    pub always_named : guide l x ≡ NoEvent → ⊥
    -- an uncontrollable event that every plant that knows it permits would be accepted
    pub free : (e : ℕ) → e < l.chart.events → l.chart.uncontrollable e ≡ true → PlantsPermit x e → possible l (flat l) x e ≡ true

-- every line with the ten points keeps the law
abbrev pub Lawful : Type 0
Lawful = (l : Line) → WellMade l → Points l → Law l

-- and each state that it reaches is assured
abbrev pub AssuredThroughout : Type 0
AssuredThroughout = (l : Line) → WellMade l → Points l → (x : State) → Reached l (flat l) x → Assured l x
