use Rattle.std.proofs.Common.{None, List, ap, get_or, sym, ◌∙◌, ◌++◌, ◌∷◌, []}
use Rattle.std.proofs.lemmas.List.{map_more}
use Rattle.ex_base.specs.declared.names.Root.{Root}
use Rattle.packing.specs.declared.objects.LargeVersion.{LargeVersion}
use Rattle.packing.proofs.volume.roots_of.Goals as goal

abbrev no_version : LargeVersion
no_version = record { least = 0; oid = record { page = record { 0 = 0 }; slot = 0; unique = 0 }; root = record { height = 0; page = None; size = 0 } }

pub loop-version-preserved : goal.loop-version-preserved
loop-version-preserved c =
    let version = get_or c.args.versions.now c.loop-version.version-index no_version in
    c.in_ok-push.ensures.items ∙ ap (λ (rs : List Root). rs ++ version.root ∷ []) c.loop-version.invariant
    ∙ sym (map_more (λ (v : LargeVersion). v.root) c.args.versions.now c.loop-version.version-index no_version c.loop-version-test.true)
