use Rattle.paraid_array.proofs.begin.begin.Goals as goal

pub start-requires : goal.start-requires
start-requires g c =
    let windows = c.requires.in_range.setup.windows in
    record { first = windows.first.1; second = windows.second; third = windows.third }

pub returns : goal.returns
returns g c = record {
  store = c.new.ensures.store;
  meta = c.new.ensures.meta;
  table = c.new.ensures.table;
  batch = c.new.ensures.batch;
  draft = c.new.ensures.draft;
  copies_synced = c.new.ensures.copies_synced;
  lengths = c.start.ensures.lengths;
  none = c.start.ensures.none;
}
