use Rattle.std.proofs.Common.{◌≡◌, ◌∙◌, ◌++◌, ◌∷◌, [], ap, subst}
use Rattle.csv.specs.Reading.{default_config, records, strip_bom}
use Rattle.csv.specs.Records.{fields_of}
use Rattle.hsp_csv.specs.Row.{IsCounted}
use Rattle.hsp_csv.proofs.Marks.{after_mark}
use Rattle.hsp_csv.proofs.row_reader.RowReader.read_quoted.Goals as goal

pub returns-in-Ok : goal.returns-in-Ok
returns-in-Ok c =
    let line = c.args.line.now in
    let text : c.deref.result.now ≡ 239 ∷ 187 ∷ 191 ∷ line =
    c.deref.ensures.value ∙ c.in_ok-extend_from_slice-2.ensures.items
    ∙ ap (λ t. t ++ line)
    (c.in_ok-extend_from_slice.ensures.items ∙ ap (λ t. t ++ 239 ∷ 187 ∷ 191 ∷ []) c.clear.ensures.items) in
    subst (λ octets. IsCounted (records default_config octets) c.in-Ok.count (fields_of c.count_records.new.first))
    (ap strip_bom text ∙ after_mark line) c.in-Ok.ensures
