-- Attributes that texts write.
use Rattle.std.specs.Prelude.{◌==◌, ◌&&◌, Bool}
use Rattle.rsl_reply.specs.declared.target.Target.{Target}

-- whether both are one attribute: of one vendor and Type, with one tag
abbrev pub is_same : Target → Target → Bool
is_same one other =
    one.vendor == other.vendor && one.number == other.number && one.tag == other.tag
