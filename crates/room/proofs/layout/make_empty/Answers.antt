-- `layout::make_empty` meets its contract. Assumes nothing.
use Rattle.std.proofs.Common.{arith, sym, ◌∙◌, length-set}
use Rattle.room_laws.proofs.LayoutLaws.{fits_facts}
use Rattle.room.proofs.StoreSteps.{empty_written, makes_empty, makes_none}
use Rattle.room.proofs.layout.make_empty.Goals as goal

pub returns-then-not-fits : goal.returns-then-not-fits
returns-then-not-fits c = makes_none _ _ _ (sym c.if-not-fits.ensures)

pub overflow_cast-memory : goal.overflow_cast-memory
overflow_cast-memory c = let f = fits_facts _ _ _ (sym c.if-not-fits.ensures) in omega arith

pub bounds-memory-0 : goal.bounds-memory-0
bounds-memory-0 c = let f = fits_facts _ _ _ (sym c.if-not-fits.ensures) in omega arith

pub overflow_cast-memory-2 : goal.overflow_cast-memory-2
overflow_cast-memory-2 c = let f = fits_facts _ _ _ (sym c.if-not-fits.ensures) in omega arith

pub bounds-memory-1 : goal.bounds-memory-1
bounds-memory-1 c = let f = fits_facts _ _ _ (sym c.if-not-fits.ensures) in simp length-set (omega arith)

pub bounds-memory-10 : goal.bounds-memory-10
bounds-memory-10 c = let f = fits_facts _ _ _ (sym c.if-not-fits.ensures) in simp length-set (omega arith)

pub write_word-requires : goal.write_word-requires
write_word-requires c = let f = fits_facts _ _ _ (sym c.if-not-fits.ensures) in simp length-set (omega arith)

pub returns : goal.returns
returns c =
    let h = sym c.if-not-fits.ensures in
    let f = fits_facts _ _ _ h in
    makes_empty _ _ _ h _ (c.write_word.ensures ∙ empty_written _ _ c.args.memory.now (omega arith))
