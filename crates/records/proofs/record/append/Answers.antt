-- `record::append` meets its contract: the packet behind the place of the head, then the head. Assumes nothing.
use Rattle.std.proofs.Common.{rules, arith, refl, ℕ, ◌+◌, ◌-◌, ◌++◌, length, length-set, take, drop}
use borrow.Rule.Slice.PartMut.{same_len_mid}
use Rattle.records.proofs.WriteLaws.{behind_min, head_room, head_refused, head_put, record_written}
use Rattle.records.proofs.record.append.Goals as goal

pub returns-in_default : goal.returns-in_default
returns-in_default g c = λ p h.
    let a = c.args in
    let place = behind_min (length a.out.now) a.at c.min-start.result (omega arith) in
    let w = h.writes _ _ _ (record { shown = _; shows = refl; left = _; met = c.write.ensures; leaves = refl }) in
    record_written p a.seat.0 a.at c.min-start.result a.out.now c.write.new.arg2 c.write.result place w _ _
    (head_refused c.write.result a.seat.0 a.at _ c.in_default.field-0 c.in_default.is)

pub bounds-out-at : goal.bounds-out-at
bounds-out-at g c =
    let a = c.args in
    let place = behind_min (length a.out.now) a.at c.min-start.result (omega arith) in
    let w = c.requires.writer.1.writes _ _ _ (record { shown = _; shows = refl; left = _; met = c.write.ensures; leaves = refl }) in
    let r = head_room c.requires.writer.0 a.seat.0 a.at c.min-start.result a.out.now c.write.new.arg2 c.write.result place w c.in-Ok.size c.in-Ok.is in
    let l = same_len_mid {X = ℕ} c.min-start.result (length a.out.now - c.min-start.result) a.out.now c.write.new.arg2 c.write.auto.arg2 in
    let s = r.1 in
    omega arith

pub overflow_add-at : goal.overflow_add-at
overflow_add-at g c =
    let a = c.args in
    let place = behind_min (length a.out.now) a.at c.min-start.result (omega arith) in
    let w = c.requires.writer.1.writes _ _ _ (record { shown = _; shows = refl; left = _; met = c.write.ensures; leaves = refl }) in
    let r = head_room c.requires.writer.0 a.seat.0 a.at c.min-start.result a.out.now c.write.new.arg2 c.write.result place w c.in-Ok.size c.in-Ok.is in
    let s = r.1 in
    search rules

pub overflow_add-end : goal.overflow_add-end
overflow_add-end g c =
    let a = c.args in
    let place = behind_min (length a.out.now) a.at c.min-start.result (omega arith) in
    let w = c.requires.writer.1.writes _ _ _ (record { shown = _; shows = refl; left = _; met = c.write.ensures; leaves = refl }) in
    let r = head_room c.requires.writer.0 a.seat.0 a.at c.min-start.result a.out.now c.write.new.arg2 c.write.result place w c.in-Ok.size c.in-Ok.is in
    let s = r.1 in
    search rules

pub slice_bounds-write_number-count : goal.slice_bounds-write_number-count
slice_bounds-write_number-count g c =
    let a = c.args in
    let place = behind_min (length a.out.now) a.at c.min-start.result (omega arith) in
    let w = c.requires.writer.1.writes _ _ _ (record { shown = _; shows = refl; left = _; met = c.write.ensures; leaves = refl }) in
    let r = head_room c.requires.writer.0 a.seat.0 a.at c.min-start.result a.out.now c.write.new.arg2 c.write.result place w c.in-Ok.size c.in-Ok.is in
    let s = r.0 in
    omega arith

pub slice_bounds-write_number-end : goal.slice_bounds-write_number-end
slice_bounds-write_number-end g c =
    let a = c.args in
    let place = behind_min (length a.out.now) a.at c.min-start.result (omega arith) in
    let w = c.requires.writer.1.writes _ _ _ (record { shown = _; shows = refl; left = _; met = c.write.ensures; leaves = refl }) in
    let r = head_room c.requires.writer.0 a.seat.0 a.at c.min-start.result a.out.now c.write.new.arg2 c.write.result place w c.in-Ok.size c.in-Ok.is in
    let l = same_len_mid {X = ℕ} c.min-start.result (length a.out.now - c.min-start.result) a.out.now c.write.new.arg2 c.write.auto.arg2 in
    let s = r.1 in
    let t = length-set (take c.min-start.result a.out.now ++ (c.write.new.arg2 ++ drop (length a.out.now - c.min-start.result) (drop c.min-start.result a.out.now))) a.at a.seat.0 in
    omega arith

pub overflow_add-result : goal.overflow_add-result
overflow_add-result g c =
    let a = c.args in
    let place = behind_min (length a.out.now) a.at c.min-start.result (omega arith) in
    let w = c.requires.writer.1.writes _ _ _ (record { shown = _; shows = refl; left = _; met = c.write.ensures; leaves = refl }) in
    let r = head_room c.requires.writer.0 a.seat.0 a.at c.min-start.result a.out.now c.write.new.arg2 c.write.result place w c.in-Ok.size c.in-Ok.is in
    let s = r.0 in
    let t = r.1 in
    search rules

pub returns : goal.returns
returns g c = λ p h.
    let a = c.args in
    let start = c.min-start.result in
    let place = behind_min (length a.out.now) a.at start (omega arith) in
    let w = h.writes _ _ _ (record { shown = _; shows = refl; left = _; met = c.write.ensures; leaves = refl }) in
    let r = head_room p a.seat.0 a.at start a.out.now c.write.new.arg2 c.write.result place w c.in-Ok.size c.in-Ok.is in
    let l = same_len_mid {X = ℕ} start (length a.out.now - start) a.out.now c.write.new.arg2 c.write.auto.arg2 in
    record_written p a.seat.0 a.at start a.out.now c.write.new.arg2 c.write.result place w _ _
    (head_put c.write.result a.seat.0 a.at (a.at + 3) c.in-Ok.size _ c.write_number.new.out c.in-Ok.is refl (let s = r.1 in omega arith) c.write_number.ensures)
