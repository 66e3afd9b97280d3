-- What is to be told of a file is one thing at most. Assumes nothing.
use Rattle.std.proofs.Common.{◌≡◌, ℕ, List, length, Some, None, Ok, Option, subst}
use Rattle.model.specs.declared.fault.Fault.{Fault}
use Rattle.hisc.specs.Sizes.{Cells}
use Rattle.hisc.specs.Verdict.{Verdict as CheckAnswer}
use Rattle.hisc.proofs.Verdicts.{one-verdict}
use Rattle.verdicts.specs.Verdicts.{FileLine, the_line, line_reading, Told, VerdictOn, unread, refused, sound, OneTold}

pub same_line : (file : List ℕ) (m n : FileLine) → line_reading file ≡ Ok m → line_reading file ≡ Ok n → m ≡ n
same_line file m n p q = cc

module _ (file : List ℕ) (cells : Cells) where
  answers : (m n : FileLine) → line_reading file ≡ Ok m → line_reading file ≡ Ok n → (r s : Option Fault) →
      CheckAnswer (the_line m) (length m.components) cells r → CheckAnswer (the_line n) (length n.components) cells s → r ≡ s
  answers m n p q r s v w =
      one-verdict (the_line m) (length m.components) cells r s v
      (subst (λ (k : FileLine). CheckAnswer (the_line k) (length k.components) cells s) (same_line file n m q p) w)

  one : (r s : Told) → VerdictOn file cells r → VerdictOn file cells s → r ≡ s
  one r s (unread p) (unread q) = cc
  one r s (unread p) (refused n q w) = cc
  one r s (unread p) (sound n q w) = cc
  one r s (refused m p v) (unread q) = cc
  one r s (refused {f = f} m p v) (refused {f = g} n q w) = let e : Some f ≡ Some g = answers m n p q (Some f) (Some g) v w in cc
  one r s (refused {f = f} m p v) (sound n q w) = let e : Some f ≡ None = answers m n p q (Some f) None v w in cc
  one r s (sound m p v) (unread q) = cc
  one r s (sound m p v) (refused {f = g} n q w) = let e : None ≡ Some g = answers m n p q None (Some g) v w in cc
  one r s (sound m p v) (sound n q w) = rw (same_line file m n p q)

pub one_told : OneTold
one_told = one
