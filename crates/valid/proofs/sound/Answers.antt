use mathlib.Core.Bool.{true, false}
use mathlib.Core.Path.{◌≡◌, sym, ◌∙◌}
use native.Mathlib.Omega.{arith}
use Rattle.process_list.proofs.Laws.{capped-exact}
use Rattle.process_list.specs.List.{numbers_of}
use Rattle.room.specs.Room.{lent}
use Rattle.valid.proofs.Elements.{sound-shape, sound-short, sound-whole, shape-few}
use Rattle.valid.specs.Valid.{every, carried, numbers_at, shape_right}
use Rattle.valid.proofs.sound.Goals as goal

-- past the first test the shape is carried, and the count of numbers is exact; past the test of each number, every one is of our form
pub returns-then-not-shape_right : goal.returns-then-not-shape_right
returns-then-not-shape_right c = sym (sound-shape _ _ (sym c.shape_right.ensures ∙ c.if-not-shape_right.true))

pub returns-then-room-at : goal.returns-then-room-at
returns-then-room-at c =
    let shaped : shape_right c.args.node.kind ≡ true = sym c.shape_right.ensures ∙ c.if-not-shape_right.false in
    let p = shape-few c.args.node.kind shaped in
    sym (sound-short _ _ shaped (omega arith))

pub returns-then-room-at-2 : goal.returns-then-room-at-2
returns-then-room-at-2 c =
    let shaped : shape_right c.args.node.kind ≡ true = sym c.shape_right.ensures ∙ c.if-not-shape_right.false in
    let few = shape-few c.args.node.kind shaped in
    let exact : c.numbers_of-count.result ≡ numbers_of c.args.node.kind = c.numbers_of-count.ensures ∙ capped-exact (numbers_of c.args.node.kind) (omega arith) in
    sym (sound-short _ _ shaped (omega arith))

pub returns-then-not-all_carried : goal.returns-then-not-all_carried
returns-then-not-all_carried c =
    let shaped : shape_right c.args.node.kind ≡ true = sym c.shape_right.ensures ∙ c.if-not-shape_right.false in
    let few = shape-few c.args.node.kind shaped in
    let exact : c.numbers_of-count.result ≡ numbers_of c.args.node.kind = c.numbers_of-count.ensures ∙ capped-exact (numbers_of c.args.node.kind) (omega arith) in
    let a = c.args in
    let f : every carried (numbers_at (lent a.coefficients.now a.powers.now) a.node.at (numbers_of a.node.kind)) ≡ false =
    rw exact at (sym c.all_carried.ensures ∙ c.if-not-all_carried.true) in
    sym (sound-whole _ _ shaped (omega arith) ∙ simp f)

pub rules_hold-requires : goal.rules_hold-requires
rules_hold-requires c =
    let shaped : shape_right c.args.node.kind ≡ true = sym c.shape_right.ensures ∙ c.if-not-shape_right.false in
    let few = shape-few c.args.node.kind shaped in
    let exact : c.numbers_of-count.result ≡ numbers_of c.args.node.kind = c.numbers_of-count.ensures ∙ capped-exact (numbers_of c.args.node.kind) (omega arith) in
    omega arith

pub returns-then-not-rules_hold : goal.returns-then-not-rules_hold
returns-then-not-rules_hold c =
    let shaped : shape_right c.args.node.kind ≡ true = sym c.shape_right.ensures ∙ c.if-not-shape_right.false in
    let few = shape-few c.args.node.kind shaped in
    let exact : c.numbers_of-count.result ≡ numbers_of c.args.node.kind = c.numbers_of-count.ensures ∙ capped-exact (numbers_of c.args.node.kind) (omega arith) in
    let forms : every carried (numbers_at (lent c.args.coefficients.now c.args.powers.now) c.args.node.at (numbers_of c.args.node.kind)) ≡ true =
    rw exact at (sym c.all_carried.ensures ∙ c.if-not-all_carried.false) in
    sym (sound-whole _ _ shaped (omega arith) ∙ simp (forms, sym c.rules_hold.ensures ∙ c.if-not-rules_hold.true))

pub returns-then-depths_right : goal.returns-then-depths_right
returns-then-depths_right c =
    let shaped : shape_right c.args.node.kind ≡ true = sym c.shape_right.ensures ∙ c.if-not-shape_right.false in
    let few = shape-few c.args.node.kind shaped in
    let exact : c.numbers_of-count.result ≡ numbers_of c.args.node.kind = c.numbers_of-count.ensures ∙ capped-exact (numbers_of c.args.node.kind) (omega arith) in
    let forms : every carried (numbers_at (lent c.args.coefficients.now c.args.powers.now) c.args.node.at (numbers_of c.args.node.kind)) ≡ true =
    rw exact at (sym c.all_carried.ensures ∙ c.if-not-all_carried.false) in
    c.allowed.ensures
    ∙ sym (sound-whole _ _ shaped (omega arith)
    ∙ simp (forms, sym c.rules_hold.ensures ∙ c.if-not-rules_hold.false, sym c.depths_right.ensures ∙ c.if-depths_right.true))

pub returns-else-depths_right : goal.returns-else-depths_right
returns-else-depths_right c =
    let shaped : shape_right c.args.node.kind ≡ true = sym c.shape_right.ensures ∙ c.if-not-shape_right.false in
    let few = shape-few c.args.node.kind shaped in
    let exact : c.numbers_of-count.result ≡ numbers_of c.args.node.kind = c.numbers_of-count.ensures ∙ capped-exact (numbers_of c.args.node.kind) (omega arith) in
    let forms : every carried (numbers_at (lent c.args.coefficients.now c.args.powers.now) c.args.node.at (numbers_of c.args.node.kind)) ≡ true =
    rw exact at (sym c.all_carried.ensures ∙ c.if-not-all_carried.false) in
    c.if-depths_right.false
    ∙ sym (sound-whole _ _ shaped (omega arith)
    ∙ simp (forms, sym c.rules_hold.ensures ∙ c.if-not-rules_hold.false, sym c.depths_right.ensures ∙ c.if-depths_right.false))
