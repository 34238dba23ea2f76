-- The numbers of an object identifier as a line gives them.
use Rattle.ex_base.specs.declared.names.Oid.{Oid}
use Rattle.table_lists.specs.declared.find.Key.{Key}

abbrev pub oid_of_key : Key → Oid
oid_of_key k = record { page = record { 0 = k.page }; slot = k.slot; unique = k.unique }
