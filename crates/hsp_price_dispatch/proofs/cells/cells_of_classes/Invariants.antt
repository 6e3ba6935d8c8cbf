use Rattle.std.proofs.Common.{◌≡◌, take}
use Rattle.std.specs.List.{flat_map}
use Rattle.hsp_price_dispatch.specs.Starting.{cells_of}
use Rattle.hsp_price_dispatch.proofs.cells.cells_of_classes.Given as goal

abbrev pub invariant-loop-class : goal.invariant-loop-class
invariant-loop-class l =
    l.cells.items ≡ flat_map (cells_of l.front.fronts l.front.number) (take l.class-index l.classes)
