-- `whole::bucket_whole` meets its contract: first the table, then its nodes. Assumes nothing.
use mathlib.Core.Path.{◌∙◌, sym, ap}
use Rattle.table_laws.specs.Table.{is_table}
use Rattle.buckets_laws.specs.Layout.{base_of, bucket_at}
use Rattle.buckets_laws.proofs.WholeLaws.{bucket_unlisted, bucket_by_nodes}
use Rattle.buckets.proofs.whole.bucket_whole.Goals as goal

pub returns-then-not-is_whole : goal.returns-then-not-is_whole
returns-then-not-is_whole c =
    let a = c.args in
    sym (bucket_unlisted (base_of a.memory.now) a.bucket (bucket_at a.memory.now a.bucket)
    (sym (c.is_whole.ensures ∙ ap (is_table 8 51) c.bucket_at.ensures) ∙ c.if-not-is_whole.true))

pub all_belong-requires : goal.all_belong-requires
all_belong-requires c =
    (c.requires.0, c.requires.1, sym (c.is_whole.ensures ∙ ap (is_table 8 51) c.bucket_at.ensures) ∙ c.if-not-is_whole.false)

pub returns : goal.returns
returns c =
    let a = c.args in
    c.all_belong.ensures
    ∙ sym (bucket_by_nodes (base_of a.memory.now) a.bucket (bucket_at a.memory.now a.bucket)
    (sym (c.is_whole.ensures ∙ ap (is_table 8 51) c.bucket_at.ensures) ∙ c.if-not-is_whole.false))
