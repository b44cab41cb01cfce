-- The fields of a core.
use Rattle.tv_core.specs.declared.proxied.Proxied.TheInside.{Inside}
use Rattle.tv_core.specs.Holds.{Parts, Holds, seen}
use Rattle.tv_core.specs.Seen.{Seen}

abbrev pub parts_of : Inside → Parts
parts_of p = record {
  machine = p.machine;
  image = p.image.items;
  guest = p.guest;
  grants = p.grants;
  sides = p.sides.items;
  waits = p.waits;
  ring = p.ring;
  handed = p.handed;
  journal = p.journal;
  seat = p.seat;
}

abbrev pub seen_in : Inside → Seen
seen_in p = seen (parts_of p)

abbrev pub IsProxied : Inside → Type 0
IsProxied p = Holds (parts_of p)
