use Rattle.std.proofs.Common.{◌≡◌, ℕ, true, drop}
use Rattle.tv_grants.specs.Grants.{is_granted, ranges_of}
use Rattle.tv_grants.proofs.ranges.granted_bytes.Given as goal

-- a range that has the byte at the address is yet to come, and one that is yet to come is one of the device's
abbrev pub invariant-loop-grant : goal.invariant-loop-grant
invariant-loop-grant l = record {
  slot : l.slot ≡ l.fn.dev;
  at : is_granted (ranges_of l.slot l.grants) l.right.0 l.addr ≡ is_granted (ranges_of l.slot (drop l.grant-index l.grants)) l.right.0 l.addr;
  all : (byte : ℕ) → is_granted (ranges_of l.slot (drop l.grant-index l.grants)) l.right.0 byte ≡ true
      → is_granted (ranges_of l.slot l.grants) l.right.0 byte ≡ true;
}
