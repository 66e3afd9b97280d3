use Rattle.std.proofs.Common.{◌≡◌, ℕ, [], ◌∷◌, Some, ap, subst, inl, arith}
use Rattle.model.specs.Sets.{member}
use Rattle.model.specs.declared.fault.Fault.TheVariants.{Alphabet}
use Rattle.hisc.specs.Lines.{components}
use Rattle.hisc.specs.Verdict.{alphabet_known, listed, AllHold}
use Rattle.points.specs.Whole.{line_whole}
use Rattle.points.proofs.Known.{made-whole}
use Rattle.points.proofs.FirstPoint.{known-all, known-not}
use Rattle.points.proofs.Listing.{fails-listed, holds_more}
use Rattle.points.proofs.whole.Whole.alphabets_known.Goals as goal

pub alphabet-alphabet-requires : goal.alphabet-alphabet-requires
alphabet-alphabet-requires g c =
    let w = c.args.self.now in
    omega (arith, c.len-component-end.ensures, w.fit.complete, (made-whole w).charted.few_levels)

pub returns-in-Some : goal.returns-in-Some
returns-in-Some g c =
    let l = line_whole c.args.self.now in
    let k = c.loop-component.component in
    let e = c.in-Some.event in
    fails-listed l (components l) k (λ c. alphabet_known c ∷ []) _ (omega (arith, c.len-component-end.ensures, c.args.self.now.fit.complete)) c.loop-component.invariant
    (inl (0, Some e, known-not l k (member c.alphabet-alphabet.result.word) (c.alphabet-alphabet.ensures (g.B.Bank.list c.args.self.now.line.now.bank)) e c.in-Some.ensures, ap (λ (j : ℕ). Alphabet j k e) c.level_of.ensures))

pub loop-component-preserved : goal.loop-component-preserved
loop-component-preserved g c =
    let l = line_whole c.args.self.now in
    let k = c.loop-component.component in
    holds_more l k (λ c. alphabet_known c ∷ []) c.loop-component.invariant
    (known-all l k (member c.alphabet-alphabet.result.word) (c.alphabet-alphabet.ensures (g.B.Bank.list c.args.self.now.line.now.bank)) (made-whole c.args.self.now) (omega (arith, c.len-component-end.ensures, c.args.self.now.fit.complete)) c.in_default.ensures, tt)

pub returns : goal.returns
returns g c =
    let w = c.args.self.now in
    let l = line_whole w in
    let z : c.loop-component.component ≡ components l = omega (arith, c.len-component-end.ensures, w.fit.complete, (made-whole w).charted.few_levels) in
    subst (λ (n : ℕ). AllHold l (listed n (λ c. alphabet_known c ∷ []))) z c.loop-component.invariant
