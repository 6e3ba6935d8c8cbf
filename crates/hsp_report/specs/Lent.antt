-- What is lent while a report is written.
use Rattle.std.specs.Prelude.{◌*◌, ℕ, List, map, if◌then◌else◌}
use Rattle.std.specs.Borrow.{Bor}
use Rattle.hsp_instance.specs.Instance.{Instance}
use Rattle.hsp_check.specs.declared.sums.ArcFlow.{ArcFlow}
use Rattle.hsp_report.specs.Numbered.{row_at}
use Rattle.hsp_report.specs.RegionReport.{is_of}

-- the names that lent ones are
abbrev pub names_in : List (Bor (List ℕ)) → List (List ℕ)
names_in names = map (λ n. n.now) names

-- what the queries over an arc cost, where its row is of the region
abbrev pub cost_in : Instance → List ℕ → ArcFlow → ℕ
cost_in it region one = if is_of region (row_at it one.arc.row) then one.arc.cost * one.flow else 0
