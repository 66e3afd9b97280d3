-- Following the guide, offer by offer. Assumes nothing.
use Rattle.std.proofs.Common.{◌≡◌, ℕ, zero, suc, ◌+◌, ◌-◌, ◌<◌, ◌≤◌, Bool, true, false, cond, List, [], ◌∷◌, ◌++◌, length, sym, refl, ap, ◌∙◌, subst, ap₂, inl, inr, arith, length-append}
use Rattle.std.proofs.lemmas.Bool.{cases_Bool}
use Rattle.model.specs.declared.fault.Fault.{Fault}
use Rattle.model.specs.declared.fault.Fault.TheVariants.{WorkCells}
use Rattle.model.specs.declared.fault.Layer.TheVariants.{Run}
use Rattle.generators.specs.declared.bank.Bank.{Ghosts}
use Rattle.hisc.specs.declared.guide.Guidance.{Guidance}
use Rattle.hisc.specs.declared.guide.Guidance.TheVariants.{Home, NoEvent, Event}
use Rattle.hisc.specs.Calls.{Offer, Guide, Reply, accepted, guidance, refused, reply, next, after, replies}
use Rattle.hisc.specs.Guide.{guide}
use Rattle.hisc.specs.Law.{followed, led_home, HomeWithin, there, onward, Assured}
use Rattle.hisc.specs.Lines.{Line, State, flat, moved, possible}
use Rattle.hisc.specs.Sizes.{Cells, enough, bound}
use Rattle.hisc.proofs.Laws.{asked, offered as offered-reply}
use Rattle.hisc.proofs.Replies.{possible_accepted}
use Rattle.line.specs.Answers.{line_in, state_in, Answered}
use Rattle.walks.specs.Given.{line_given}
use Rattle.line.specs.Home.{WentHome, NotGuided}
use Rattle.line.specs.declared.running.Running.{Running}

module _ (l : Line) where
  -- the events of the word are named in turn and possible, and lead from x to y
  pub Walked : State → List ℕ → State → Type 0
  Walked x [] y = x ≡ y
  Walked x (e ∷ w) y = (guide l x ≡ Event e) × (possible l (flat l) x e ≡ true) × Walked (moved l x e) w y

  walked_more : (x : State) (w : List ℕ) (y : State) (e : ℕ) → guide l y ≡ Event e → possible l (flat l) y e ≡ true → Walked x w y → Walked x (w ++ (e ∷ [])) (moved l y e)
  unfolding Walked
  walked_more x [] y e g p h =
      (ap (guide l) h ∙ g, ap (λ (s : State). possible l (flat l) s e) h ∙ p, ap (λ (s : State). moved l s e) h)
  walked_more x (d ∷ w) y e g p h = (h.0, h.1, walked_more (moved l x d) w y e g p h.2)

  walked_none : (x : State) (w : List ℕ) (y : State) → length w ≡ 0 → Walked x w y → x ≡ y
  unfolding Walked
  walked_none x [] y z h = h
  walked_none x (d ∷ w) y z h = absurd (omega arith)

  module _ (cells : Cells) (k : enough l cells ≡ true) where
    walked-replies : (x : State) (w : List ℕ) (y : State) → Walked x w y → guide l y ≡ Home → replies l x (followed cells w) ≡ led_home w
    unfolding Walked
    walked-replies x [] y h g = ap (λ (r : Reply). r ∷ []) (asked l cells k x Home (ap (guide l) h ∙ g))
    walked-replies x (e ∷ w) y h g =
        ap₂ (λ (s : Reply) (t : List Reply). s ∷ t) (asked l cells k x (Event e) h.0)
        (offered-reply l x e h.1 (followed cells w) ∙ ap (λ (t : List Reply). accepted ∷ t) (walked-replies (moved l x e) w y h.2 g))

    walked-after : (x : State) (w : List ℕ) (y : State) → Walked x w y → after l x (followed cells w) ≡ y
    unfolding Walked
    walked-after x [] y h = h
    walked-after x (e ∷ w) y h =
        ap (λ (b : Bool). after l (cond b (moved l x e) x) (followed cells w)) h.1 ∙ walked-after (moved l x e) w y h.2

  -- one offer less is left
  record Nearer (k : ℕ) (x : State) (e : ℕ) : Type 0 where
    less : ℕ
    one : k ≡ suc less
    rest : HomeWithin l less (moved l x e)

  nearer : (k : ℕ) (x : State) (e : ℕ) → HomeWithin l k x → guide l x ≡ Event e → Nearer k x e
  nearer k x e (there g) q = absurd (let z : ◌≡◌ {A = ℕ} 0 1 = cc in omega arith)
  nearer (suc m) x e (onward d g p h) q =
      let z : d ≡ e = cc in record { less = m; one = refl; rest = subst (λ (i : ℕ). HomeWithin l m (moved l x i)) z h }

  -- what the guide's reply says
  told-event : (x : State) (cells : Cells) (g : Guidance) → guidance g ≡ reply l x (Guide cells) → (enough l cells ≡ true) × (guide l x ≡ g)
  told-event x cells g t =
      elim (cases_Bool (enough l cells)) [
        | inl e ↦ (let q = t ∙ ap (λ (b : Bool). cond b (guidance (guide l x)) (refused (WorkCells Run))) e in (e, cc))
        | inr n ↦ (let q = t ∙ ap (λ (b : Bool). cond b (guidance (guide l x)) (refused (WorkCells Run))) n in absurd (let z : ◌≡◌ {A = ℕ} 0 1 = cc in omega arith))
      ]

  told-refused : (x : State) (cells : Cells) (f : Fault) → refused f ≡ reply l x (Guide cells) → (enough l cells ≡ false) × (f ≡ WorkCells Run)
  told-refused x cells f t =
      elim (cases_Bool (enough l cells)) [
        | inl e ↦ (let q = t ∙ ap (λ (b : Bool). cond b (guidance (guide l x)) (refused (WorkCells Run))) e in absurd (let z : ◌≡◌ {A = ℕ} 0 1 = cc in omega arith))
        | inr n ↦ (let q = t ∙ ap (λ (b : Bool). cond b (guidance (guide l x)) (refused (WorkCells Run))) n in (n, cc))
      ]

module _ {B : Type 0} {gh : Ghosts B} (first : Running B gh) (cells : Cells) where
  abbrev line : Line
  line = line_in first

  -- n offers were made
  pub record Going (now : Running B gh) (used : Cells) (n : ℕ) : Type 0 where
    pub lent : used ≡ cells
    pub same_line : now.passed.line ≡ first.passed.line
    pub word : List ℕ
    pub counted : length word ≡ n
    pub few : n ≤ bound line
    pub walked : Walked line (state_in first) word (state_in now)
    pub left : 0 < n → HomeWithin line (bound line - n) (state_in now)
    pub asked : 0 < n → enough line cells ≡ true

  pub going-none : Going first cells 0
  unfolding Walked
  going-none = record {
    lent = refl;
    same_line = refl;
    word = [];
    counted = refl;
    few = omega arith;
    walked = refl;
    left = λ h. absurd (omega arith);
    asked = λ h. absurd (omega arith);
  }

  module _ (now : Running B gh) (used : Cells) (n : ℕ) (p : Going now used n) where
    same : line_in now ≡ line
    same = ap (line_given gh.list) p.same_line

    here : Assured (line_in now) (state_in now) → Assured line (state_in now)
    here a = subst (λ (l : Line). Assured l (state_in now)) same a

    within : (m : ℕ) → m ≡ n → Assured line (state_in now) → HomeWithin line (bound line - n) (state_in now)
    within zero z a = let q : bound line ≡ bound line - n = omega arith in subst (λ (k : ℕ). HomeWithin line k (state_in now)) q a.home_within
    within (suc m) z a = p.left (omega arith)

    told : (answer : Reply) → Answered now now (Guide used) answer → answer ≡ reply line (state_in now) (Guide cells)
    told answer a =
        a.told ∙ ap (λ (l : Line). reply l (state_in now) (Guide used)) same ∙ ap (λ (k : Cells). reply line (state_in now) (Guide k)) p.lent

    -- the guide named an event, and it was offered
    pub going_more : (then : Running B gh) (e : ℕ) → Answered now now (Guide used) (guidance (Event e)) → Answered now then (Offer e) accepted → (left : Cells) → left ≡ used → Going then left (n + 1)
    going_more then e a o left kept =
        let g = told-event line (state_in now) cells (Event e) (told (guidance (Event e)) a) in
        let s = here a.assured in
        let t = s.named_possible e g.1 in
        let k = nearer line (bound line - n) (state_in now) e (within n refl s) g.1 in
        let moves : state_in then ≡ moved line (state_in now) e =
        o.moves ∙ ap (λ (l : Line). next l (state_in now) (Offer e)) same ∙ ap (λ (b : Bool). cond b (moved line (state_in now) e) (state_in now)) t in
        let less : k.less ≡ bound line - (n + 1) = omega (arith, k.one) in
        record {
          lent = kept ∙ p.lent;
          same_line = o.same_line ∙ p.same_line;
          word = p.word ++ (e ∷ []);
          counted = length-append p.word (e ∷ []) ∙ ap (λ (m : ℕ). m + 1) p.counted;
          few = omega (arith, k.one);
          walked = subst (Walked line (state_in first) (p.word ++ (e ∷ []))) (sym moves) (walked_more line (state_in first) p.word (state_in now) e g.1 t p.walked);
          left = λ h. subst (HomeWithin line (bound line - (n + 1))) (sym moves) (subst (λ (m : ℕ). HomeWithin line m (moved line (state_in now) e)) less k.rest);
          asked = λ h. g.0;
        }

    -- what the guide names is never refused
    pub going-accepted : (then : Running B gh) (e : ℕ) (f : Fault) → Answered now now (Guide used) (guidance (Event e)) → Answered now then (Offer e) (refused f) → ⊥
    going-accepted then e f a o =
        let g = told-event line (state_in now) cells (Event e) (told (guidance (Event e)) a) in
        let q = possible_accepted line (state_in now) e ((here a.assured).named_possible e g.1) in
        let r = o.told ∙ ap (λ (l : Line). reply l (state_in now) (Offer e)) same ∙ q in
        let z : ◌≡◌ {A = ℕ} 0 1 = cc in omega arith

    homed : Answered now now (Guide used) (guidance Home) → WentHome first now cells n
    homed a =
        let g = told-event line (state_in now) cells Home (told (guidance Home) a) in
        record {
          word = p.word;
          counted = p.counted;
          short = p.few;
          named = walked-replies line cells g.0 (state_in first) p.word (state_in now) p.walked g.1;
          same_line = p.same_line;
          moves = sym (walked-after line cells g.0 (state_in first) p.word (state_in now) p.walked);
          home = (here a.assured).home_marked g.1;
        }

    lost : Answered now now (Guide used) (guidance NoEvent) → ⊥
    lost a =
        let g = told-event line (state_in now) cells NoEvent (told (guidance NoEvent) a) in
        (here a.assured).always_named g.1

    -- where the guide names no event, it says home
    pub going-home : (g : Guidance) → ((e : ℕ) → g ≡ Event e → ⊥) → Answered now now (Guide used) (guidance g) → WentHome first now cells n
    going-home Home none a = homed a
    going-home NoEvent none a = absurd (lost a)
    going-home (Event e) none a = absurd (none e refl)

    pub going-short : (f : Fault) → Answered now now (Guide used) (refused f) → NotGuided first now cells f
    going-short f a =
        let g = told-refused line (state_in now) cells f (told (refused f) a) in
        record {
          refusal = g.1;
          few = g.0;
          same_line = p.same_line;
          stays = sym (walked_none line (state_in first) p.word (state_in now) (p.counted ∙ never-asked n refl g.0) p.walked);
        }
      where
        never-asked : (m : ℕ) → m ≡ n → enough line cells ≡ false → n ≡ 0
        never-asked zero z h = sym z
        never-asked (suc m) z h = let q = p.asked (omega arith) in absurd (let y : ◌≡◌ {A = ℕ} 0 1 = cc in omega arith)
