-- The law over queues of calls. Assumes nothing.
use Rattle.std.proofs.Common.{◌≡◌, ℕ, suc, ◌≤◌, Bool, true, cond, List, [], ◌∷◌, ◌++◌, length, sym, refl, ap, ◌∙◌, subst, ap₂, inl, inr, arith}
use Rattle.std.proofs.lemmas.Bool.{cases_Bool}
use Rattle.model.specs.declared.fault.Layer.TheVariants.{Run}
use Rattle.model.specs.declared.fault.Fault.TheVariants.{WorkCells}
use Rattle.hisc.specs.declared.guide.Guidance.{Guidance}
use Rattle.hisc.specs.declared.guide.Guidance.TheVariants.{Home, NoEvent, Event}
use Rattle.hisc.specs.Lines.{Line, State, flat, initial, moved, possible, Reached, begin, step}
use Rattle.hisc.specs.Sizes.{Cells, enough, bound}
use Rattle.hisc.specs.Guide.{guide}
use Rattle.hisc.specs.Calls.{Call, Offer, Guide, Possible, Look, Restart, Reply, accepted, guidance, refused, reply, next, after, replies}
use Rattle.hisc.specs.Law.{followed, led_home, HomeWithin, there, onward, Lawful, AssuredThroughout}
use Rattle.hisc.proofs.Facts.{Facts, facts}
use Rattle.hisc.proofs.Replies.{possible_accepted}
use Rattle.hisc.proofs.Rules.{home_marked, marked_home, in-range}
use Rattle.hisc.proofs.Progress.{guided}
use Rattle.hisc.proofs.Controllable.{unhindered}

module _ (l : Line) where
  -- queues
  pub replies-++ : (x : State) (q p : List Call) → replies l x (q ++ p) ≡ replies l x q ++ replies l (after l x q) p
  replies-++ x [] p = refl
  replies-++ x (c ∷ q) p = ap (λ (r : List Reply). reply l x c ∷ r) (replies-++ (next l x c) q p)

  pub after-++ : (x : State) (q p : List Call) → after l x (q ++ p) ≡ after l (after l x q) p
  after-++ x [] p = refl
  after-++ x (c ∷ q) p = after-++ (next l x c) q p

  pub reached-next : (x : State) → Reached l (flat l) x → (c : Call) → Reached l (flat l) (next l x c)
  reached-next x r (Offer e) =
      elim (cases_Bool (possible l (flat l) x e)) [
        | inl t ↦ subst (λ (b : Bool). Reached l (flat l) (cond b (moved l x e) x)) (sym t) (step e r t (λ c lt i. refl))
        | inr f ↦ subst (λ (b : Bool). Reached l (flat l) (cond b (moved l x e) x)) (sym f) r
      ]
  reached-next x r (Guide cells) = r
  reached-next x r (Possible k) = r
  reached-next x r Look = r
  reached-next x r Restart = begin (λ c lt i. refl)

  pub reached-after : (x : State) → Reached l (flat l) x → (q : List Call) → Reached l (flat l) (after l x q)
  reached-after x r [] = r
  reached-after x r (c ∷ q) = reached-after (next l x c) (reached-next x r c) q

  from-initial : (q : List Call) → Reached l (flat l) (after l (initial l) q)
  from-initial q = reached-after (initial l) (begin (λ c lt i. refl)) q

  pub offered : (x : State) (e : ℕ) → possible l (flat l) x e ≡ true → (q : List Call) → replies l x (Offer e ∷ q) ≡ accepted ∷ replies l (moved l x e) q
  offered x e t q =
      ap₂ (λ (r : Reply) (b : Bool). r ∷ replies l (cond b (moved l x e) x) q) (possible_accepted l x e t) t

  pub asked : (cells : Cells) → enough l cells ≡ true → (x : State) (g : Guidance) → guide l x ≡ g → reply l x (Guide cells) ≡ guidance g
  asked cells k x g q = ap (λ (b : Bool). cond b (guidance (guide l x)) (refused (WorkCells Run))) k ∙ ap guidance q

  record Followed (cells : Cells) (k : ℕ) (x : State) : Type 0 where
    word : List ℕ
    short : length word ≤ k
    named : replies l x (followed cells word) ≡ led_home word
    home : guide l (after l x (followed cells word)) ≡ Home

  follow-guide : (cells : Cells) → enough l cells ≡ true → (k : ℕ) (x : State) → HomeWithin l k x → Followed cells k x
  follow-guide cells c k x (there g) = record { word = []; short = omega arith; named = ap (λ (r : Reply). r ∷ []) (asked cells c x Home g); home = g }
  follow-guide cells c (suc k) x (onward e g a h) =
      let r = follow-guide cells c k (moved l x e) h in
      record {
        word = e ∷ r.word;
        short = omega (arith, r.short);
        named = ap₂ (λ (s : Reply) (t : List Reply). s ∷ t) (asked cells c x (Event e) g) (offered x e a (followed cells r.word) ∙ ap (λ (t : List Reply). accepted ∷ t) r.named);
        home = ap (λ (b : Bool). guide l (after l (cond b (moved l x e) x) (followed cells r.word))) a ∙ r.home;
      }

pub lawful : Lawful
lawful l M P = record {
  led_home = λ cells c q.
      let x : State = after l (initial l) q in
      let h = follow-guide l cells c (bound l) x (guided l F x (from-initial l q)) in
      record {
        word = h.word;
        short = h.short;
        named = replies-++ l (initial l) q (followed cells h.word) ∙ ap (λ (t : List Reply). replies l (initial l) q ++ t) h.named;
        home = home_marked l (after l (initial l) (q ++ followed cells h.word))
            (ap (guide l) (after-++ l (initial l) q (followed cells h.word)) ∙ h.home);
      };
  home_marked = λ q. home_marked l (after l (initial l) q);
  marked_home = λ q. marked_home l (after l (initial l) q) (in-range l M (after l (initial l) q) (from-initial l q));
  free = λ q e lt u p.
      replies-++ l (initial l) q (Offer e ∷ []) ∙
      ap (λ (t : List Reply). replies l (initial l) q ++ t) (offered l (after l (initial l) q) e (unhindered l F (after l (initial l) q) (from-initial l q) e lt u p) []);
}
  where
    F : Facts l
    F = facts l M P

-- the answer of a guide that leads home
answer-possible : (l : Line) (k : ℕ) (x : State) → HomeWithin l k x → (e : ℕ) → guide l x ≡ Event e → possible l (flat l) x e ≡ true
answer-possible l k x (there g) e q = absurd cc
answer-possible l (suc k) x (onward d g p h) e q = let z : d ≡ e = cc in subst (λ (m : ℕ). possible l (flat l) x m ≡ true) z p

answer-given : (l : Line) (k : ℕ) (x : State) → HomeWithin l k x → guide l x ≡ NoEvent → ⊥
answer-given l k x (there g) q = cc
answer-given l (suc k) x (onward d g p h) q = cc

pub assured : AssuredThroughout
assured l M P x r = record {
  home_within = guided l F x r;
  home_marked = home_marked l x;
  marked_home = marked_home l x (in-range l M x r);
  named_possible = answer-possible l (bound l) x (guided l F x r);
  always_named = answer-given l (bound l) x (guided l F x r);
  free = unhindered l F x r;
}
  where
    F : Facts l
    F = facts l M P
