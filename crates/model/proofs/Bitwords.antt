-- Sets of events as 64-bit words: what the operations on the words do to their members. Assumes nothing.
use Rattle.std.proofs.Common.{◌≡◌, ℕ, ◌-◌, ◌*◌, ◌/◌, ◌%◌, ◌^◌, ◌<◌, false, not, ◌&&◌, ◌||◌, eqb, ltb, arith}
use lib.Bits.{bit_and, bit_or}
use Rattle.std.proofs.Common.{w64}
use Rattle.std.proofs.lemmas.Bool.Decides.{nat_tests}
use Rattle.std.proofs.lemmas.Nat.Bits.{same_from_bits_below, bit_at-zero, bit_at-lt, bit_at_and, bit_at_or, bit_at_not, bit_at_set_same, bit_at_set_other, shr_and_one}
use Rattle.model.specs.Sets.{bit, member}

pub member-zero : (e : ℕ) → member 0 e ≡ false
unfolding bit
member-zero e = grind (arith, nat_tests, bit_at-zero e)

-- a word with no member is 0
pub none-zero : (w : ℕ) → w < 2 ^ 64 → ((e : ℕ) → member w e ≡ false) → w ≡ 0
unfolding bit
none-zero w h none = same_from_bits_below 64 w 0 h (omega arith) (λ i l. grind (arith, nat_tests, none i, bit_at-zero i, bit_at-lt w i))

pub member-test : (w e : ℕ) → e < 64 → eqb (bit_and (w / 2 ^ e) 1) 1 ≡ member w e
unfolding bit
member-test w e h = grind (arith, nat_tests, shr_and_one w e)

pub member-with : (w e : ℕ) → e < 64 → (k : ℕ) → member (bit_or w (1 * 2 ^ e % 2 ^ 64)) k ≡ (member w k || (ltb k 64 && eqb k e))
unfolding bit
member-with w e h k = grind (arith, nat_tests, bit_at_set_same w64 w e h, bit_at_set_other w64 w e h k)

pub member-or : (a b k : ℕ) → member (bit_or a b) k ≡ (member a k || member b k)
unfolding bit
member-or a b k = grind (arith, nat_tests, bit_at_or a b k, bit_at-lt a k, bit_at-lt b k)

pub member-and : (a b k : ℕ) → member (bit_and a b) k ≡ (member a k && member b k)
unfolding bit
member-and a b k = grind (arith, nat_tests, bit_at_and a b k, bit_at-lt a k, bit_at-lt b k)

-- the events of one set that are not in another
pub member-less : (a b : ℕ) → b < 2 ^ 64 → (k : ℕ) → member (bit_and a (2 ^ 64 - 1 - b)) k ≡ (member a k && not (member b k))
unfolding bit
member-less a b h k = grind (arith, nat_tests, bit_at_and a (2 ^ 64 - 1 - b) k, bit_at_not w64 b k h, bit_at-lt a k, bit_at-lt b k)
