use Rattle.std.proofs.Common.{◌≡◌, ◌-◌, ◌^◌, min, take, map, string_bytes}
use Rattle.ports.specs.MemoryDesk.{given_by}
use Rattle.ports.proofs.memory_files.given_by.Given as goal

abbrev pub invariant-loop-handle : goal.invariant-loop-handle
invariant-loop-handle l =
    l.given ≡ min (2 ^ 64 - 1) (given_by l.name (map (λ h. string_bytes h.name) (take l.handle-index l.handles))
    (map (λ h. h.place) (take l.handle-index l.handles)))
