-- The words of a certificate's text.
use Rattle.std.specs.Prelude.{ℕ, List, codes}
use Rattle.hsp_cert.specs.declared.item.Word.{Word}
use Rattle.hsp_cert.specs.declared.item.Word.TheVariants as word

abbrev pub spelled : Word → List ℕ
spelled word.Version = codes "HSPLAN"
spelled word.Plan = codes "PLAN"
spelled word.Shortage = codes "SHORTAGE"
spelled word.Cost = codes "cost"
spelled word.Use = codes "use"
spelled word.Row = codes "row"
spelled word.Server = codes "server"
spelled word.Host = codes "host"
spelled word.Demand = codes "demand"
spelled word.Capacity = codes "capacity"
spelled word.End = codes "END"
