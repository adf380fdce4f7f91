-- The names that the walks share.
pub use base.Fml.{ftrue, flft}
pub use base.Fraction.{full_share}
pub use base.Logic.{emp, id⊢}
pub use contract.Lifetimes.{toks}
pub use contract.Monad.{fact}
pub use contract.Running.{tables}
pub use denote.Exit.{no, yes}
pub use denote.Laws.{Is, shows}
pub use denote.Param.{bounded, param}
pub use denote.Param.Laws.{param_laws}
pub use denote.Param.NoDrop.{glues}
pub use denote.RattleType.{RattleType}
pub use denote.RawPtr.{Ptr, null_ptr, ptr_val}
pub use denote.Shadow.{pure_i}
pub use denote.Signature.{plain}
pub use denote.Steps.{only, peeks}
pub use denote.Triple.Clauses.{Lasts, lasts}
pub use denote.Triple.Spec.{triple_of}
pub use denote.Triple.Table.{framed}
pub use mir.MapTy.{inst_fn}
pub use mir.Syntax.{a_type, dcons, dnil}
pub use mir.Val.{Val}
pub use types.ByLocal.{alloc_all, pass_all, free_all, look_at, get, get_in, sets}
pub use types.Kit.{‵, raw, ◌⊛◌, some, later, ◌$◌, !, keep, move, drop, join, split, split3, fjoin, use1, use3, await, pick}
pub use types.Part.{agg, sub, whole}
pub use types.Run.{stop, fld, of_opd, no_more, and_then, returns, enter, lit}
pub use Rattle.core.proofs.alloc.Calls.{Goes-blank}
pub use Rattle.core.proofs.atomic.Steps.{Ptr-Good}
pub use Rattle.std.proofs.Common.{◌≡◌, [], ◌∷◌, refl, ap, subst}
pub use Rattle.std.specs.contracts.impls.GlobalAllocator.TheImpl.{ghosts, dict}
pub use Rattle.std.specs.declared.option.Option.TheVariants.{Some, None}
pub use Rattle.std_alloc.specs.Box.{box_allocator}
pub use Rattle.std_alloc.specs.Box.Ownership.{box_owns}
