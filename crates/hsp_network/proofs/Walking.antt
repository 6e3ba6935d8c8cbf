-- A path is augmented arc by arc, from the sink back to the root.
use Rattle.std.proofs.Common.{◌≡◌, ◌≢◌, ℕ, ◌+◌, ◌-◌, ◌<◌, ◌≤◌, ◌⊎◌, inl, inr, Bool, true, false, length, slice_index}
use Rattle.std.proofs.Common.{List, set, if◌then◌else◌, refl, ap, sym, ◌∙◌, arith, length-set, get_or-set_same}
use Rattle.std.proofs.Common.{get_or-set_other}
use Rattle.std.proofs.lemmas.Bool.{cases_eq}
use Rattle.hsp_network.specs.Sums.{only}
use Rattle.hsp_network.specs.Through.{through}
use Rattle.hsp_network.specs.Residual.{Flow, IsBalanced, IsTree, Arcs, SearchTree, Pushes, TreeArc, Walk}
use Rattle.hsp_network.specs.Residual.{from, gives, predecessor, takes, to, way, width}
use Rattle.hsp_network.proofs.AddingUp.{through_more, through_less}
use Rattle.hsp_network.proofs.Directions.{from_in}

-- an arc has the residual capacity x, and the rest of its capacity flows on it
module _ (n : Arcs) (f f' : Flow) (k amount x : ℕ) (lf : k < length f.flows.now)
    (lr : k < length f.residual_capacity.now) (balanced : IsBalanced n f k)
    (price : f'.price.now ≡ f.price.now) (excess : f'.excess.now ≡ f.excess.now)
    (residual_capacity : f'.residual_capacity.now ≡ set f.residual_capacity.now k x)
    (flows : f'.flows.now ≡ set f.flows.now k (slice_index n.capacities.now k - x)) where
  -- the flow of the arc is what its room lacks of its capacity
  flow-is : slice_index f'.flows.now k ≡ slice_index n.capacities.now k - x
  flow-is = rw flows (get_or-set_same f.flows.now k _ 0 lf)

  -- the room of the arc is what was set
  residual_capacity-is : slice_index f'.residual_capacity.now k ≡ x
  residual_capacity-is = rw residual_capacity (get_or-set_same f.residual_capacity.now k _ 0 lr)

  -- a changed arc pushes the amount, where the sums at its ends change so
  sent_by : (d : Bool) → x ≤ slice_index n.capacities.now k → width f' k d + amount ≡ width f k d →
      ((v : ℕ) → through n.tails.now f'.flows.now v + through n.heads.now f.flows.now v + only (to n k d) v amount
      ≡ through n.tails.now f.flows.now v + through n.heads.now f'.flows.now v + only (from n k d) v amount)
      → Pushes n f f' k d amount
  sent_by d within less moved = record {
    flows_many = rw flows (length-set f.flows.now k _);
    residual_many = rw residual_capacity (length-set f.residual_capacity.now k _);
    sum = omega (arith, flow-is, residual_capacity-is);
    less = less;
    flows_same = λ j ne. rw flows (get_or-set_other f.flows.now k j _ 0 ne);
    residual_same = λ j ne. rw residual_capacity (get_or-set_other f.residual_capacity.now k j _ 0 ne);
    moved = moved;
    price = price;
    excess = excess;
  }

  -- the amount is pushed along the arc, in its direction
  pub sent : (d : Bool) → amount ≤ width f k d
      → x
      ≡ (if d then slice_index f.residual_capacity.now k - amount
      else slice_index n.capacities.now k - (slice_index f.flows.now k - amount)) →
      Pushes n f f' k d amount
  sent true fits left =
      let more : slice_index n.capacities.now k - x ≡ slice_index f.flows.now k + amount = omega arith in
      let through_is : (ends : List ℕ) (v : ℕ)
      → through ends f'.flows.now v ≡ through ends f.flows.now v + only (slice_index ends k) v amount =
      λ ends v. rw (flows, more) (through_more ends f.flows.now k amount v lf) in
      sent_by true (omega arith) (omega (arith, residual_capacity-is))
      (λ v. omega (arith, through_is n.tails.now v, through_is n.heads.now v))
  sent false fits left =
      let rest : slice_index n.capacities.now k - x ≡ slice_index f.flows.now k - amount = omega arith in
      let through_is : (ends : List ℕ) (v : ℕ)
      → through ends f'.flows.now v + only (slice_index ends k) v amount ≡ through ends f.flows.now v =
      λ ends v. rw (flows, rest) (through_less ends f.flows.now k amount v lf fits) in
      sent_by false (omega arith) (omega (arith, flow-is))
      (λ v. omega (arith, through_is n.tails.now v, through_is n.heads.now v))

-- the widths of an arc's two arcs
module _ (n : Arcs) (f f' : Flow) (k : ℕ) (d : Bool) (amount : ℕ) (s : Pushes n f f' k d amount) where
  -- the other arcs have the same room
  width_same : (j : ℕ) (e : Bool) → j ≢ k → width f' j e ≡ width f j e
  width_same j true ne = s.residual_same j ne
  width_same j false ne = s.flows_same j ne

  -- an arc is as wide as before, or it is the one that was used, or the tree's arc against it
  widths : (e : Bool) → (e ≡ d) ⊎ (width f k e ≤ width f' k e)
  widths e = at d e s.sum s.less
    where
      at : (d e : Bool)
          → slice_index f'.flows.now k + slice_index f'.residual_capacity.now k
          ≡ slice_index f.flows.now k + slice_index f.residual_capacity.now k →
          width f' k d + amount ≡ width f k d → (e ≡ d) ⊎ (width f k e ≤ width f' k e)
      at true true sum less = inl refl
      at false false sum less = inl refl
      at true false sum less = inr (omega arith)
      at false true sum less = inr (omega arith)

-- an arc of reduced cost 0 and its reverse
both_ways : (n : Arcs) (price : ℕ → ℕ) (k : ℕ) (d e : Bool) → gives n price k d ≡ takes n price k d
    → gives n price k e ≤ takes n price k e
both_ways n price k true true tight = omega arith
both_ways n price k true false tight = omega arith
both_ways n price k false true tight = omega arith
both_ways n price k false false tight = omega arith

module _ (n : Arcs) (f : Flow) (t : SearchTree) (price : ℕ → ℕ) (root amount : ℕ) where
  -- `f0` is the flow that the tree was found in
  module _ (at : ℕ) (f0 : Flow) (tree : IsTree n f0 t root price) (walk : Walk n f t price root amount at)
      (away : at ≢ root) where
    -- the node was reached along an arc of the tree
    arc : TreeArc n f0 t price at (way n t at)
    arc = tree.arc at walk.at_in away walk.near

    -- the predecessor of a node is an arc
    pub step_arc : slice_index t.predecessor.now at < length n.tails.now
    step_arc = arc.path.arc

    -- the amount fits on that arc
    pub step_fits : amount ≤ width f (slice_index t.predecessor.now at) (way n t at)
    step_fits = omega (arith, walk.ready, walk.fits at walk.at_in away walk.near (omega arith))

    -- after one arc the walk goes on at its other end
    pub stepped : (f' : Flow) → Pushes n f f' (slice_index t.predecessor.now at) (way n t at) amount
        → Walk n f' t price root amount (predecessor n t at (way n t at))
    stepped f' s = record {
      flows_many = s.flows_many ∙ walk.flows_many;
      residual_many = s.residual_many ∙ walk.residual_many;
      at_in = from_in n (slice_index t.predecessor.now at) (way n t at) arc.path.arc;
      near = omega (arith, arc.sooner, walk.near);
      ready = omega (arith, arc.path.carried, walk.ready);
      balanced = λ j l. elim (cases_eq j (slice_index t.predecessor.now at)) [
        | inl e ↦ rw e (s.sum ∙ rw e at (walk.balanced j l))
        | inr ne ↦ omega (arith, walk.balanced j l, s.flows_same j ne, s.residual_same j ne)
      ];
      pending = λ v l nz.
          let here : only (to n (slice_index t.predecessor.now at) (way n t at)) v amount ≡ only at v amount =
          ap (λ m. only m v amount) arc.path.end in
          let lack : slice_index f'.excess.now v ≡ slice_index f.excess.now v = ap (λ xs. slice_index xs v) s.excess in
          omega (arith, walk.pending v l nz, s.moved v);
      paid = λ j e l wide. elim (cases_eq j (slice_index t.predecessor.now at)) [
        | inl q ↦ rw q (both_ways n price (slice_index t.predecessor.now at) (way n t at) e arc.tight)
        | inr ne ↦
            walk.paid j e l
            (omega (arith, width_same n f f' (slice_index t.predecessor.now at) (way n t at) amount s j e ne))
      ];
      fits = λ v l nr q deep.
          let it = (tree.arc v l nr q).path in
          let old = walk.fits v l nr q (omega (arith, arc.path.nearer)) in
          elim (cases_eq (slice_index t.predecessor.now v) (slice_index t.predecessor.now at)) [
            | inl e ↦ elim (widths n f f' (slice_index t.predecessor.now at) (way n t at) amount s (way n t v)) [
              | inl same ↦
                  let end : to n (slice_index t.predecessor.now at) (way n t at) ≡ v = rw (same, e) at it.end in
                  let v-at : v ≡ at = sym end ∙ arc.path.end in
                  let deeper : slice_index t.depth.now v ≡ slice_index t.depth.now at =
                  ap (λ m. slice_index t.depth.now m) v-at in
                  absurd (omega (arith, arc.path.nearer))
              | inr wider ↦ rw e (let b = rw e at old in let w = rw e at wider in omega arith)
            ]
            | inr ne ↦
                omega (
                  arith,
                  width_same n f f' (slice_index t.predecessor.now at) (way n t at) amount s
                      (slice_index t.predecessor.now v) (way n t v) ne,
                )
          ];
    }
