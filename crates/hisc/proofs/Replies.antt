-- The replies and the states of queues of calls fit together. Assumes nothing.
use Rattle.std.proofs.Common.{◌≡◌, ℕ, zero, suc, ◌+◌, ◌<◌, Bool, true, false, cond, ◌&&◌, eqb, ltb, ◌⊎◌, List, [], ◌∷◌, ◌++◌, length, get_or, sym, refl, ap, ◌∙◌, subst, ap₂, inl, inr, arith, length-append}
use mathlib.Core.Option.{Option}
use Rattle.std.proofs.lemmas.List.{get_or_append_left, get_or_push}
use Rattle.std.proofs.lemmas.Bool.{cases_Bool, cases_eq, and_parts, and_from, eq-eqb, ne_eqb, ltb-true, lt-ltb, le-ltb}
use Rattle.model.specs.Generators.{Gen, forbids, moves}
use Rattle.model.specs.declared.fault.Fault.{Fault}
use Rattle.model.specs.declared.fault.Fault.TheVariants.{EventNumber}
use Rattle.model.proofs.Finds.{never, bool_iff, first-or, below_suc}
use Rattle.hisc.specs.Lines.{Line, State, components, flat, initial, moved, possible}
use Rattle.hisc.specs.Calls.{Call, Offer, Guide, Possible, Look, Restart, Reply, accepted, guidance, events, states, restarted, refused, passing, row, refuser, unless_refused, offer_reply, reply, next, after, occurs, turned, counted, AllCallsAgree}
use Rattle.hisc.proofs.Walks.{possible-alphabet, possible-at, possible-make}

module _ (l : Line) where
  -- an offer is accepted exactly if the event is possible in the whole line
  pub possible_accepted : (x : State) (e : ℕ) → possible l (flat l) x e ≡ true → offer_reply l x e ≡ accepted
  unfolding refuser
  possible_accepted x e p =
      ap (λ (b : Bool). cond b (unless_refused l (refuser l x e) e) (refused (EventNumber e))) (possible-alphabet l (flat l) x e p) ∙
      elim (first-or (components l) (λ c. forbids (l.component c) (x c) e)) [
        | inl r ↦ never r.2.holds (possible-at l (flat l) x e p r.0 r.2.within refl)
        | inr r ↦ ap (λ (o : Option ℕ). unless_refused l o e) r.0
      ]

  abbrev is_accepted : Reply → Bool
  is_accepted accepted = true
  is_accepted (guidance g) = false
  is_accepted (events w) = false
  is_accepted (states w) = false
  is_accepted restarted = false
  is_accepted (refused f) = false

  pub accepted_possible : (x : State) (e : ℕ) → offer_reply l x e ≡ accepted → possible l (flat l) x e ≡ true
  unfolding refuser
  accepted_possible x e q =
      elim (cases_Bool (ltb e l.chart.events)) [
        | inl t ↦
            let u : unless_refused l (refuser l x e) e ≡ accepted = sym (ap (λ (b : Bool). cond b (unless_refused l (refuser l x e) e) (refused (EventNumber e))) t) ∙ q in
            elim (first-or (components l) (λ c. forbids (l.component c) (x c) e)) [
              | inl r ↦ never (ap is_accepted u) (ap (λ (o : Option ℕ). is_accepted (unless_refused l o e)) r.1)
              | inr r ↦ possible-make l (flat l) x e t (λ c lt i. r.1 c lt)
            ]
        | inr f ↦ never (ap is_accepted q) (ap (λ (b : Bool). is_accepted (cond b (unless_refused l (refuser l x e) e) (refused (EventNumber e)))) f)
      ]

  -- a refusal changes nothing
  refused_stays : (x : State) (c : Call) (f : Fault) → reply l x c ≡ refused f → next l x c ≡ x
  refused_stays x (Offer e) f q =
      elim (cases_Bool (possible l (flat l) x e)) [
        | inl t ↦ never {b = true} refl (sym (ap is_accepted (possible_accepted x e t)) ∙ ap is_accepted q)
        | inr u ↦ ap (λ (b : Bool). cond b (moved l x e) x) u
      ]
  refused_stays x (Guide cells) f q = refl
  refused_stays x (Possible k) f q = refl
  refused_stays x Look f q = refl
  refused_stays x Restart f q = absurd cc

-- lists of the events that pass
occurs-join : (e : ℕ) (a b : List ℕ) → occurs e (a ++ b) ≡ occurs e a + occurs e b
occurs-join e [] b = omega arith
occurs-join e (d ∷ a) b = omega (arith, occurs-join e a b)

pub occurs-passing : (n : ℕ) (p : ℕ → Bool) (e : ℕ) → occurs e (passing n p) ≡ cond (ltb e n && p e) 1 0
occurs-passing zero p e = sym (ap (λ (b : Bool). cond (b && p e) 1 0) (le-ltb e 0 (omega arith)))
occurs-passing (suc n) p e =
    occurs-join e (passing n p) (cond (p n) (n ∷ []) []) ∙ ap (λ (m : ℕ). m + occurs e (cond (p n) (n ∷ []) [])) (occurs-passing n p e) ∙ last (cases_eq e n)
  where
    one : (d : ℕ) (b : Bool) → occurs d (cond b (n ∷ []) []) ≡ cond (b && eqb d n) 1 0
    one d true = omega arith
    one d false = refl

    both : (b : Bool) → ◌≡◌ {A = ℕ} (cond (false && b) 1 0 + cond (b && true) 1 0) (cond (true && b) 1 0)
    both true = refl
    both false = refl

    none_more : (b : Bool) → ◌≡◌ {A = ℕ} (cond (b && false) 1 0) 0
    none_more true = refl
    none_more false = refl

    at_n : cond (ltb n n && p n) 1 0 + occurs n (cond (p n) (n ∷ []) []) ≡ cond (ltb n (suc n) && p n) 1 0
    at_n =
        ap₂ (λ (a b : ℕ). a + b) (ap (λ (b : Bool). cond (b && p n) 1 0) (le-ltb n n (omega arith))) (one n (p n) ∙ ap (λ (b : Bool). cond (p n && b) 1 0) (eq-eqb _ _ refl)) ∙
        both (p n) ∙ sym (ap (λ (b : Bool). cond (b && p n) 1 0) (lt-ltb n (suc n) (omega arith)))

    last : (e ≡ n) ⊎ (e ≡ n → ⊥) → cond (ltb e n && p e) 1 0 + occurs e (cond (p n) (n ∷ []) []) ≡ cond (ltb e (suc n) && p e) 1 0
    last (inl z) = subst (λ (m : ℕ). cond (ltb m n && p m) 1 0 + occurs m (cond (p n) (n ∷ []) []) ≡ cond (ltb m (suc n) && p m) 1 0) (sym z) at_n
    last (inr d) =
        let rest : occurs e (cond (p n) (n ∷ []) []) ≡ 0 = one e (p n) ∙ ap (λ (b : Bool). cond (p n && b) 1 0) (ne_eqb _ _ d) ∙ none_more (p n) in
        let same : ltb e n ≡ ltb e (suc n) = bool_iff (ltb e n) (ltb e (suc n)) (λ t. lt-ltb e (suc n) (omega (arith, ltb-true _ _ t))) (λ t. lt-ltb e n (omega (arith, ltb-true _ _ t, d))) in
        let here : ◌≡◌ {A = ℕ} (cond (ltb e n && p e) 1 0) (cond (ltb e (suc n) && p e) 1 0) = ap (λ (b : Bool). cond (b && p e) 1 0) same in
        omega (arith, rest, here)

-- rows of states
pub length-row : (n : ℕ) (f : ℕ → ℕ) → length (row n f) ≡ n
length-row zero f = refl
length-row (suc n) f = length-append (row n f) (f n ∷ []) ∙ omega (arith, length-row n f)

pub row_at : (n : ℕ) (f : ℕ → ℕ) (i : ℕ) → i < n → get_or (row n f) i 0 ≡ f i
row_at zero f i lt = absurd (omega arith)
row_at (suc n) f i lt =
    below_suc i n lt
    (λ k. get_or_append_left (row n f) (f n ∷ []) 0 i (omega (arith, length-row n f)) ∙ row_at n f i k)
    (λ z. get_or_push (row n f) (f n) 0 i (length-row n f ∙ sym z) ∙ ap f (sym z))

-- states by the accepted events
turned_more : (g : Gen) (s : ℕ) (w : List ℕ) (e : ℕ) → turned g s (w ++ (e ∷ [])) ≡ moves g (turned g s w) e
turned_more g s [] e = refl
turned_more g s (d ∷ w) e = turned_more g (moves g s d) w e

counted-states : (l : Line) (c : ℕ) (x : State) (w : List ℕ) → x c ≡ turned (l.component c) (l.component c).initial w → (q : List Call) →
    after l x q c ≡ turned (l.component c) (l.component c).initial (counted l x w q)
counted-states l c x w h [] = h
counted-states l c x w h (Offer e ∷ q) = counted-states l c (next l x (Offer e)) (cond (possible l (flat l) x e) (w ++ (e ∷ [])) w) (offered (possible l (flat l) x e)) q
  where
    offered : (b : Bool) → cond b (moved l x e) x c ≡ turned (l.component c) (l.component c).initial (cond b (w ++ (e ∷ [])) w)
    offered true = ap (λ (m : ℕ). moves (l.component c) m e) h ∙ sym (turned_more (l.component c) (l.component c).initial w e)
    offered false = h
counted-states l c x w h (Guide cells ∷ q) = counted-states l c x w h q
counted-states l c x w h (Possible k ∷ q) = counted-states l c x w h q
counted-states l c x w h (Look ∷ q) = counted-states l c x w h q
counted-states l c x w h (Restart ∷ q) = counted-states l c (initial l) [] refl q

in-flat : (l : Line) (x : State) (e : ℕ) → (ltb e l.chart.events && possible l (flat l) x e) ≡ possible l (flat l) x e
in-flat l x e =
    bool_iff (ltb e l.chart.events && possible l (flat l) x e) (possible l (flat l) x e)
    (λ t. (and_parts _ _ t).1)
    (λ t. and_from _ _ (possible-alphabet l (flat l) x e t) t)

pub calls-agree : AllCallsAgree
calls-agree l = record {
  accepted_possible = accepted_possible l;
  possible_accepted = possible_accepted l;
  refused_stays = refused_stays l;
  listed_once = λ x e. occurs-passing l.chart.events (possible l (flat l) x) e ∙ ap (λ (b : Bool). cond b 1 0) (in-flat l x e);
  states_counted = λ q c. counted-states l c (initial l) [] refl q;
}
