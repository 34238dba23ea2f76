-- An outside that doesn't count its calls.
use Rattle.std.specs.Prelude.{ℕ, None, refl}
use Rattle.disk_model.specs.Outside.{Outside, IsWorld, Goes, DiskOnly, WritesNothing}
use Rattle.disk_model.specs.Calls.{Tears}

-- the same, with no count of calls
abbrev pub hushed : Outside → Outside
hushed w = record w { calls = None }

pub world_hushed : {w : Outside} → IsWorld w → IsWorld (hushed w)
world_hushed world = record {
  held_may_stay = world.held_may_stay;
  whole = world.whole;
  bytes = world.bytes;
  now_counts = world.now_counts;
  now_only = world.now_only;
  earlier = world.earlier;
  stands_now = world.stands_now;
  stands_only = world.stands_only;
  stood_by_now = world.stood_by_now;
  stood_counts = world.stood_counts;
}

goes_hushed : {a b : Outside} → Goes a b → Goes (hushed a) (hushed b)
goes_hushed goes = record {
  size = goes.size;
  honest = goes.honest;
  disk_told = goes.disk_told;
  left_told = goes.left_told;
  sent_told = goes.sent_told;
  calls_told = refl;
  clock = goes.clock;
  disk_faults = goes.disk_faults;
  read_faults = goes.read_faults;
  write_faults = goes.write_faults;
  moments = goes.moments;
  past = goes.past;
}

pub only_hushed : {a b : Outside} → DiskOnly a b → DiskOnly (hushed a) (hushed b)
only_hushed only = record {
  goes = goes_hushed only.goes;
  left = only.left;
  sent = only.sent;
  read_faults = only.read_faults;
  write_faults = only.write_faults;
  adds = record { each = only.adds.each };
}

pub nothing_hushed : {a b : Outside} → WritesNothing a b → WritesNothing (hushed a) (hushed b)
nothing_hushed nothing = record {
  only = only_hushed nothing.only;
  disk = nothing.disk;
  back = nothing.back;
  adds = λ honest. record { each = (nothing.adds honest).each };
}

pub tears_hushed : {a b : Outside} (at n : ℕ) → Tears at n a b → Tears at n (hushed a) (hushed b)
tears_hushed at n tears = record {
  disk = tears.disk;
  images = tears.images;
  adds = record { each = tears.adds.each };
}
