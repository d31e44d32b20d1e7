use Rattle.std.proofs.Common.{◌≡◌, ◌+◌, ◌-◌, ◌*◌, length, sym, subst, arith}
use borrow.Rule.Slice.PartMut.{put_mid}
use Rattle.flash.specs.Pages.{RowPut}
use Rattle.flash.proofs.Rows.{put}
use Rattle.flash.proofs.put_page.Goals as goal

pub returns : goal.returns
returns c =
    let n : length c.fill_row.new.row ≡ 513 = subst (λ r. length r ≡ 513) (sym c.fill_row.ensures) (omega (arith, c.told-bytes)) in
    subst (λ r. RowPut c.args.k r c.args.pages.now (put_mid (c.args.k * 513) (c.args.k * 513 + 513 - c.args.k * 513) c.args.pages.now c.fill_row.new.row)) c.fill_row.ensures
    (put c.args.k (c.args.k * 513) (c.args.k * 513 + 513 - c.args.k * 513) c.args.pages.now c.fill_row.new.row c.requires n (omega arith) (omega arith))
