use Rattle.std.proofs.Common.{◌≡◌, drop}
use Rattle.std.specs.List.{list_all}
use Rattle.hsp_text.specs.Name.{is_name_octet}
use Rattle.hsp_text.proofs.name.is_name.Given as goal

abbrev pub invariant-loop-octet : goal.invariant-loop-octet
invariant-loop-octet l = list_all is_name_octet (drop l.octet-index l.text) ≡ list_all is_name_octet l.text
