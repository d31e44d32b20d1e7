-- When limits are those of a chip, and that the memory that is lent suffices for them.
use Rattle.std.proofs.Common.{◌≡◌, ℕ, true, false, ◌&&◌, ◌||◌, eqb, None, sym, ap, ◌∙◌, arith}
use Rattle.std.proofs.lemmas.Bool.Decides.{nat_tests}
use Rattle.meaning.specs.Promise.{room_for}
use Rattle.limits.specs.Opening.{misfit_of}
use Rattle.limits.specs.declared.Limits.{Limits}
use Rattle.limits.specs.declared.Sizes.{Sizes}
use Rattle.journal_rows.specs.Layout.{slot_blocks}
use Rattle.journal_steps.specs.Steps.{chip_limits}
use Rattle.sales.specs.Finding.{served, fits_chip}

pub memory_fits : (l : Limits) (s : Sizes) → served l ≡ true → s.legs ≡ 4096 → s.fares ≡ 768 → s.bookings ≡ 2816 → s.sums ≡ 128 → misfit_of l s ≡ None
memory_fits l s e a b c d = grind (arith, nat_tests)

pub not_so_many : (l : Limits) (block blocks asked : ℕ) → served l ≡ true → asked ≡ room_for (chip_limits l) → eqb asked blocks ≡ false → false ≡ fits_chip l block blocks
not_so_many l block blocks asked e a n =
    sym (ap (λ t. t && (eqb (room_for (chip_limits l)) blocks && (eqb block 0 || eqb block (slot_blocks (chip_limits l))))) e
    ∙ ap (λ t. t && (eqb block 0 || eqb block (slot_blocks (chip_limits l)))) (ap (λ k. eqb k blocks) (sym a) ∙ n))

pub so_many : (l : Limits) (block blocks asked slot : ℕ) → served l ≡ true → asked ≡ room_for (chip_limits l) → eqb asked blocks ≡ true → slot ≡ slot_blocks (chip_limits l) →
    (eqb block 0 || eqb block slot) ≡ fits_chip l block blocks
so_many l block blocks asked slot e a n s =
    ap (λ k. eqb block 0 || eqb block k) s
    ∙ sym (ap (λ t. t && (eqb (room_for (chip_limits l)) blocks && (eqb block 0 || eqb block (slot_blocks (chip_limits l))))) e
    ∙ ap (λ t. t && (eqb block 0 || eqb block (slot_blocks (chip_limits l)))) (ap (λ k. eqb k blocks) (sym a) ∙ n))
