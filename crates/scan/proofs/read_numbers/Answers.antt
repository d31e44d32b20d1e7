-- Each turn reads one more number of those that are left.
use Rattle.std.proofs.Common.{◌≡◌, ℕ, ◌-◌, List, [], ◌∷◌, length, min, take, drop, sym, ap, ◌∙◌, arith}
use Rattle.std.proofs.lemmas.List.{take_at, take_all, take_more_set, length-take}
use Rattle.std.proofs.lemmas.Result.{err_from_is_err_and}
use Rattle.scan.specs.Words.{numbers_in}
use Rattle.scan.proofs.Readings.{numbers_next, numbers_done}
use Rattle.scan.proofs.read_numbers.Goals as goal

-- the places of the numbers, before any is there
five : List ℕ
five = 0 ∷ 0 ∷ 0 ∷ 0 ∷ 0 ∷ []

-- as many of them are filled as were asked for, but at most five
places : (n count : ℕ) → n ≡ min count 5 → length (take n five) ≡ min count 5
unfolding five
places n count e = omega (arith, length-take n five)

pub returns-in_err-next : goal.returns-in_err-next
unfolding five
returns-in_err-next c =
    let p = err_from_is_err_and c.from_residual.result c.from_residual.ensures.1 in
    let next = numbers_next _ c.loop-value.value-index (take c.loop-value.value-index c.loop-value.value-items) c.loop-value.rest.now _ c.loop-value-test.true c.in_err-next.ensures in
    rw (p.1, p.2) (sym (c.loop-value.invariant ∙ next) ∙ ap (λ n. numbers_in n c.args.line.now) (places _ _ c.min-most.ensures))

pub loop-value-preserved : goal.loop-value-preserved
loop-value-preserved c =
    let next = numbers_next _ c.loop-value.value-index (take c.loop-value.value-index c.loop-value.value-items) c.loop-value.rest.now _ c.loop-value-test.true c.in_ok-next.ensures in
    rw (take_more_set c.loop-value.value-items c.loop-value.value-index c.in_ok-next.next.value (omega arith)) (c.loop-value.invariant ∙ next)

pub returns : goal.returns
unfolding five
returns c =
    let most = places _ _ c.min-most.ensures in
    let none_left : length (take c.min-most.result five) - c.loop-value.value-index ≡ 0 = omega arith in
    let whole = take_at c.loop-value.value-items (drop c.min-most.result five) (min c.args.count 5) (omega arith) in
    let all = take_all c.loop-value.value-index c.loop-value.value-items (omega arith) in
    rw whole (sym (rw (all, none_left, numbers_done c.loop-value.value-items c.loop-value.rest.now, most) at c.loop-value.invariant))
