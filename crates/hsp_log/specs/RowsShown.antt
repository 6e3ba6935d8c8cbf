-- What lent fields and rows of a log show.
use Rattle.std.specs.Prelude.{option_map}
use Rattle.hsp_names.specs.Lent.{octets_of}
use Rattle.hsp_instance.specs.Instance.{Row}
use Rattle.hsp_log.specs.LogRows as log
use Rattle.hsp_log.specs.declared.log_rows.LogRow.{LogRow}
use Rattle.hsp_log.specs.declared.log_rows.Parts.{Parts}

abbrev pub parts_shown : Parts → log.Parts
parts_shown parts =
    record { region = parts.region.now; handle = parts.handle.now; count = option_map (λ o. o.now) parts.count }

abbrev pub row_shown : LogRow → Row
row_shown row = record { region = row.region.now; handle = octets_of row.handle; count = row.count }
