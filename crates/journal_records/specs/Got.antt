-- A record that was read of a page. Definitions only: nothing is assumed or proved here.
use Rattle.std.specs.Prelude.{◌≡◌, ℕ, List, Ok, Err, Result}
use Rattle.meaning.specs.House.{House}
use Rattle.journal_rows.specs.Sorts.{Sort}
use Rattle.journal_records.specs.declared.WrongPage.{WrongPage}

-- a record of the page that is in range in a house, read of its numbers; or the page is wrong, where they are not those of one in range
abbrev pub RecordGot : {X R : Type 0} (s : Sort X) → (R → X) → (House → R → Type 0) → House → List ℕ → Result R WrongPage → Type 0
RecordGot s means Sound h ws (Ok r) = (means r ≡ s.read ws) × Sound h r
RecordGot s means Sound h ws (Err e) = s.FineIn h (s.read ws) → s.Counted ws → ⊥
