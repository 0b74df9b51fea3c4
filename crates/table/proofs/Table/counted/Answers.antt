use Rattle.table.proofs.SectionLaws.{counts_are}
use mathlib.Core.Path.{refl, ◌∙◌, ap}
use Rattle.rules.specs.Reading.{byte}
use Rattle.table.proofs.Table.counted.Goals as goal

pub returns : goal.returns
returns c =
    let at = byte c.args.bytes.now in (
      counts_are _ _ _ _ _ c.byte_at.ensures (c.byte_at-2.ensures ∙ ap at c.locks_at.ensures.0)
          (c.byte_at-3.ensures ∙ ap at c.resources_at.ensures.0) (c.byte_at-4.ensures ∙ ap at c.accesses_at.ensures.0),
      refl,
    )
