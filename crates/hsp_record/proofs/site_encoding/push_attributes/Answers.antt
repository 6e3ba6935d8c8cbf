use Rattle.std.proofs.Common.{◌++◌}
use Rattle.hsp_record.specs.Fields.{joined, list_fields}
use Rattle.hsp_record.specs.Site.{attribute_fields}
use Rattle.hsp_record.proofs.Appending.{append_next}
use Rattle.hsp_record.proofs.site_encoding.push_attributes.Goals as goal

pub loop-attribute-preserved : goal.loop-attribute-preserved
loop-attribute-preserved c =
    rw c.in_ok-push_attribute.ensures
    (append_next attribute_fields c.args.attributes.now c.loop-attribute.attribute-index c.attribute-item.result
    c.loop-attribute.out.items (c.args.out.now.items ++ joined (list_fields attribute_fields c.args.attributes.now))
    c.loop-attribute-test.true c.attribute-item.is c.loop-attribute.invariant)
