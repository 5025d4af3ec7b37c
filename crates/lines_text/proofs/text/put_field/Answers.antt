use Rattle.std.proofs.Common.{◌∙◌}
use Rattle.lines_text.proofs.Decimal.{field-appends}
use Rattle.lines_text.proofs.text.put_field.Goals as goal

pub returns : goal.returns
returns c =
    field-appends c.args.n c.args.end c.ranges.n.fits (c.as_bytes.ensures.value ∙ c.format.ensures.text) c.put-after.ensures c.put.ensures
