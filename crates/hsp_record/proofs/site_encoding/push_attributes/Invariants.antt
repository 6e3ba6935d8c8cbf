use Rattle.std.proofs.Common.{◌≡◌, ◌++◌, drop}
use Rattle.hsp_record.specs.Fields.{joined, all_fields, list_fields}
use Rattle.hsp_record.specs.Site.{attribute_fields}
use Rattle.hsp_record.proofs.site_encoding.push_attributes.Given as goal

abbrev pub invariant-loop-attribute : goal.invariant-loop-attribute
invariant-loop-attribute l =
    l.out.items ++ joined (all_fields attribute_fields (drop l.attribute-index l.attributes)) ≡ l.fn.out.items
    ++ joined (list_fields attribute_fields l.attributes)
