use Rattle.std.proofs.Common.{sym, ◌∙◌, arith}
use Rattle.paraid_plain.proofs.ImageLemmas.{block_here, has_place_parts, read_here, size_here, slot_exists, stored_none, stored_some}
use Rattle.paraid_plain.specs.Images.{disks_in}
use Rattle.paraid_plain.proofs.image.Image.stored.Goals as goal

pub returns-then-not-has_place : goal.returns-then-not-has_place
returns-then-not-has_place c =
    c.zero.ensures ∙ sym (stored_none (disks_in c.args.self.now) c.args.disk c.args.place (sym c.has_place.ensures ∙ c.if-not-has_place.true))

pub index-requires : goal.index-requires
index-requires c =
    let vec = c.args.self.now.slots in
    let there = has_place_parts (disks_in c.args.self.now) c.args.disk c.args.place (sym c.has_place.ensures ∙ c.if-not-has_place.false) in
    let exists = slot_exists vec.items c.args.disk c.args.place there.1 in
    omega (arith, vec.ok.0)

pub index-requires-2 : goal.index-requires-2
index-requires-2 c =
    let slots = c.args.self.now.slots.items in
    let y = c.index.result.now in
    let there = has_place_parts (disks_in c.args.self.now) c.args.disk c.args.place (sym c.has_place.ensures ∙ c.if-not-has_place.false) in
    let exists = slot_exists slots c.args.disk c.args.place there.1 in
    let size = size_here slots c.args.disk y exists c.index.ensures in
    omega (arith, y.blocks.ok.0, there.1)

pub returns : goal.returns
returns c =
    let slots = c.args.self.now.slots.items in
    let y = c.index.result.now in
    let has = sym c.has_place.ensures ∙ c.if-not-has_place.false in
    let there = has_place_parts (disks_in c.args.self.now) c.args.disk c.args.place has in
    let exists = slot_exists slots c.args.disk c.args.place there.1 in
    let size = size_here slots c.args.disk y exists c.index.ensures in
    let here = block_here slots c.args.disk y exists c.index.ensures c.args.place in
    let found = read_here y.blocks.items c.args.place c.index-2.result.now c.index-2.ensures (omega (arith, there.1)) here in
    c.copy.ensures ∙ found ∙ sym (stored_some (disks_in c.args.self.now) c.args.disk c.args.place has)
