-- Parts of a list of words: one that is written, and those beside it; once, for records of every width.
use Rattle.std.proofs.Common.{◌≡◌, ℕ, suc, ◌+◌, ◌-◌, ◌*◌, ◌<◌, ◌≤◌, ◌⊎◌, List, [], ◌∷◌, ◌++◌, length, get_or, take, drop, replicate, sym, ap, ◌∙◌, inl, inr, mul-le-mul_right, suc-mul, arith, rules}
use borrow.Rule.Slice.PartMut.{put_mid, post_of}
use Rattle.std.proofs.lemmas.Bool.{cases_lt, cases_order}
use Rattle.std.proofs.lemmas.List.{same_lists, places, take_at, drop_at, drop_all, drop-replicate, append-nil, length-drop}
use Rattle.records.specs.declared.Leg.{Leg}
use Rattle.records.specs.declared.Booking.{Booking}
use Rattle.records.specs.Words.{part, leg_read, booking_read, padded}

-- the part that was written
pub here : (a n m : ℕ) (w ys : List ℕ) → a + n ≤ length w → length ys ≡ n → take n (drop a (put_mid a m w ys)) ≡ ys
here a n m w ys h e = same_lists _ _ (search (rules, places)) (λ k d lt. grind (arith, places))

-- a part beside it
pub beside : (a b m n : ℕ) (w ys : List ℕ) → a + m ≤ length w → length ys ≡ m → (b + n ≤ a) ⊎ (a + m ≤ b) → take n (drop b (put_mid a m w ys)) ≡ take n (drop b w)
beside a b m n w ys h e (inl l) = same_lists _ _ (search (rules, places)) (λ k d lt. grind (arith, places))
beside a b m n w ys h e (inr l) = same_lists _ _ (search (rules, places)) (λ k d lt. grind (arith, places))

-- one word of the part that was written
pub inside : (a m k p : ℕ) (w ys : List ℕ) → a ≤ length w → k < length ys → p ≡ a + k → get_or (put_mid a m w ys) p 0 ≡ get_or ys k 0
inside a m k p w ys h l e = grind (arith, places)

-- one word beside it
pub outside : (a m p : ℕ) (w ys : List ℕ) → a + m ≤ length w → length ys ≡ m → (p < a) ⊎ (a + m ≤ p) → get_or (put_mid a m w ys) p 0 ≡ get_or w p 0
outside a m p w ys h e (inl l) = grind (arith, places)
outside a m p w ys h e (inr l) = grind (arith, places)

-- a record ends before a later one begins
ends : (size j k : ℕ) → j < k → j * size + size ≤ k * size
ends size j k h = let m : suc j * size ≤ k * size = mul-le-mul_right size h in omega (arith, suc-mul j size)

-- two records lie apart, of whatever width
apart : (size used j k : ℕ) → used ≤ size → (j ≡ k → ⊥) → (j * size + used ≤ k * size) ⊎ (k * size + used ≤ j * size)
apart size used j k h ne = elim (cases_order j k) [
  | inl e ↦ absurd (ne e)
  | inr (inl l) ↦ inl (omega (arith, ends size j k l))
  | inr (inr g) ↦ inr (omega (arith, ends size k j g))
]

-- STORING A RECORD, of whatever width: where the part that is written is the record's own, it reads as what was written, and each other one as it did
module _ {X : Type 0} (read : List ℕ → X) (size used k a n : ℕ) (w ys : List ℕ) where
  pub stored : (x : X) → read ys ≡ x → used ≤ size → k * size + size ≤ length w → length ys ≡ used → a ≡ k * size → n ≡ used → read (part size used (put_mid a n w ys) k) ≡ x
  stored x e u h l p q = (λ d. read (take used (drop (k * size) (put_mid (p d) (q d) w ys)))) ∙ ap read (here (k * size) used used w ys (omega arith) l) ∙ e

  pub others : (j : ℕ) → (j ≡ k → ⊥) → used ≤ size → k * size + size ≤ length w → length ys ≡ used → a ≡ k * size → n ≡ used → read (part size used (put_mid a n w ys) j) ≡ read (part size used w j)
  others j ne u h l p q = (λ d. read (take used (drop (j * size) (put_mid (p d) (q d) w ys)))) ∙ ap read (beside (k * size) (j * size) used used w ys (omega arith) l (apart size used j k u ne))

-- words behind those that a record uses are none that another one uses, of whatever width
pub behind : (size used i j c : ℕ) → used + c < size → (i * size + used + c < j * size) ⊎ (j * size + used ≤ i * size + used + c)
behind size used i j c h = elim (cases_lt i j) [
  | inl l ↦ inl (omega (arith, ends size i j l))
  | inr g ↦ inr (let m : j * size ≤ i * size = mul-le-mul_right size g in omega arith)
]

-- storing a record leaves them as they were
pub spared : (size used k a n : ℕ) (w ys : List ℕ) (j c : ℕ) → used + c < size → k * size + size ≤ length w → length ys ≡ used → a ≡ k * size → n ≡ used →
    get_or (put_mid a n w ys) (j * size + used + c) 0 ≡ get_or w (j * size + used + c) 0
spared size used k a n w ys j c h f l p q =
    (λ d. get_or (put_mid (p d) (q d) w ys) (j * size + used + c) 0) ∙ outside (k * size) used (j * size + used + c) w ys (omega arith) l (behind size used j k c h)

-- two parts that fill their words; over variables, since numerals unfold
part_put : (a m : ℕ) (h r ys : List ℕ) → length h ≡ a → put_mid a m (h ++ r) ys ≡ h ++ (ys ++ drop m r)
part_put a m h r ys e = λ d. take_at h r a e d ++ (ys ++ drop m (drop_at h r a e d))

two_parts : (a m : ℕ) (h r ys : List ℕ) → length h ≡ a → length r ≤ m → put_mid a m (h ++ r) ys ≡ h ++ ys
two_parts a m h r ys e l = part_put a m h r ys e ∙ (λ d. h ++ (ys ++ drop_all m r l d)) ∙ ap (λ (v : List ℕ). h ++ v) (append-nil ys)

-- a leg's words are its head of five, then its limits
pub leg_wrote : (g : Leg) (w h ys : List ℕ) → length w ≡ 31 → length h ≡ 5 → length g.limits ≡ 26 →
    h ≡ g.from ∷ g.to ∷ g.leaves ∷ g.arrives ∷ g.classes ∷ [] → ys ≡ g.limits → leg_read (put_mid 5 26 (h ++ post_of 0 5 w) ys) ≡ g
leg_wrote g w h ys a b c e f =
    ap leg_read (two_parts 5 26 h (drop 5 w) ys b (omega (arith, length-drop 5 w)) ∙ (λ d. e d ++ f d))
    ∙ (λ d. record { from = g.from; to = g.to; leaves = g.leaves; arrives = g.arrives; classes = g.classes; limits = (ap (take 26) (sym (append-nil g.limits)) ∙ take_at g.limits [] 26 c) d })

-- a list of eight is its elements
eight : (l : List ℕ) → length l ≡ 8 → get_or l 0 0 ∷ get_or l 1 0 ∷ get_or l 2 0 ∷ get_or l 3 0 ∷ get_or l 4 0 ∷ get_or l 5 0 ∷ get_or l 6 0 ∷ get_or l 7 0 ∷ [] ≡ l
eight l h = same_lists _ _ (sym h) (λ k d lt. grind (arith, places))

-- a booking's words are five numbers, then its eight legs
pub booking_wrote : (b : Booking) (v rest : List ℕ) → length b.legs ≡ 8 →
    v ≡ b.class ∷ b.seats ∷ b.stands ∷ b.until ∷ b.count ∷ get_or b.legs 0 0 ∷ get_or b.legs 1 0 ∷ get_or b.legs 2 0 ∷ get_or b.legs 3 0 ∷ get_or b.legs 4 0 ∷ get_or b.legs 5 0 ∷ get_or b.legs 6 0 ∷ get_or b.legs 7 0 ∷ [] →
    booking_read (v ++ rest) b.paid ≡ b
booking_wrote b v rest h is =
    ap (λ (x : List ℕ). booking_read (x ++ rest) b.paid) is
    ∙ (λ i. record { class = b.class; seats = b.seats; stands = b.stands; until = b.until; count = b.count; legs = eight b.legs h i; paid = b.paid })

-- numbers at the front of zeros
pub front : (n : ℕ) (zeros xs v : List ℕ) → zeros ≡ replicate n 0 → v ≡ xs → v ++ post_of 0 (length xs - 0) zeros ≡ padded n xs
front n zeros xs v z e =
    let m : length xs - 0 ≡ length xs = omega arith in
    (λ d. e d ++ drop (m d) (z d)) ∙ ap (λ (r : List ℕ). xs ++ r) (drop-replicate (length xs) n 0)
