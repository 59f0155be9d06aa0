-- `put_file` meets its contract. Each way through it is a law of proofs/Finishing.antt.
use Rattle.edit_write.proofs.Finishing.{form_in, original_in, result_in, count_in, items_in, end_in, file_put, file_long}
use Rattle.edit_write.proofs.put_file.Goals as goal

pub put_line-a-requires : goal.put_line-a-requires
put_line-a-requires c = form_in _ _ _ _ c.args.out.now c.requires

pub put_line-b-requires : goal.put_line-b-requires
put_line-b-requires c = original_in _ _ _ _ _ c.requires c.put_line-a.ensures

pub put_line-c-requires : goal.put_line-c-requires
put_line-c-requires c = result_in _ _ _ _ _ c.requires c.put_line-a.ensures c.put_line-b.ensures

pub put_line-d-requires : goal.put_line-d-requires
put_line-d-requires c = rw c.count-count.ensures (count_in _ _ _ _ _ c.requires c.put_line-a.ensures c.put_line-b.ensures c.put_line-c.ensures)

pub put_items-e-requires : goal.put_items-e-requires
put_items-e-requires c =
    let d = rw c.count-count.ensures at c.put_line-d.ensures in
    items_in _ _ _ _ _ c.requires c.put_line-a.ensures c.put_line-b.ensures c.put_line-c.ensures d

pub put_line-requires : goal.put_line-requires
put_line-requires c =
    let d = rw c.count-count.ensures at c.put_line-d.ensures in
    rw c.count-count.ensures (end_in _ _ _ _ _ c.requires c.put_line-a.ensures c.put_line-b.ensures c.put_line-c.ensures d c.put_items-e.ensures)

pub shape_of-out : goal.shape_of-out
shape_of-out c =
    let d = rw c.count-count.ensures at c.put_line-d.ensures in
    let f = rw c.count-count.ensures at c.put_line.ensures in
    file_long _ _ _ _ _ c.requires c.put_line-a.ensures c.put_line-b.ensures c.put_line-c.ensures d c.put_items-e.ensures f

pub returns : goal.returns
returns c =
    let d = rw c.count-count.ensures at c.put_line-d.ensures in
    let f = rw c.count-count.ensures at c.put_line.ensures in
    file_put _ _ _ _ _ c.requires c.put_line-a.ensures c.put_line-b.ensures c.put_line-c.ensures d c.put_items-e.ensures f
