use Rattle.std.proofs.Common.{option_map, arith}
use Rattle.hsp_tables.specs.SettingsRows.{source_shown}
use Rattle.hsp_stream.proofs.InterfaceTurns.{begins, ends, record_there, records_behind, rows_more}
use Rattle.hsp_stream.proofs.interface_records.table_of.Goals as goal

pub record_of-requires : goal.record_of-requires
record_of-requires c =
    record_there (option_map (λ v. v.now) c.args.values) c.args.settings.now.sites c.loop-number.number
    c.name-name.result.now (source_shown c.source-source.result) c.name-name.ensures c.source-source.ensures
    c.loop-number.invariant.1

pub loop-number-init : goal.loop-number-init
loop-number-init c = (
  begins (option_map (λ v. v.now) c.args.values) c.args.settings.now.sites c.in_ok-text.text.items
      c.in_ok-text.ensures.items,
  c.requires,
)

pub loop-number-preserved : goal.loop-number-preserved
loop-number-preserved c = (
  rows_more (option_map (λ v. v.now) c.args.values) c.args.settings.now.sites c.loop-number.number
      c.name-name.result.now (source_shown c.source-source.result) c.name-name.ensures c.source-source.ensures
      c.loop-number.text.items c.push_record.new.out.items c.in_ok-site.site c.in_ok-site.ensures
      c.in_ok-push_record.ensures c.loop-number.invariant.0,
  records_behind (option_map (λ v. v.now) c.args.values) c.args.settings.now.sites c.loop-number.number
      c.name-name.result.now (source_shown c.source-source.result) c.name-name.ensures c.source-source.ensures
      c.loop-number.invariant.1,
)

pub returns : goal.returns
returns c =
    ends (option_map (λ v. v.now) c.args.values) c.args.settings.now.sites c.loop-number.number
    c.loop-number.text.items (omega (arith, c.len-number-end.ensures.count, c.loop-number-test.false))
    c.loop-number.invariant.0
