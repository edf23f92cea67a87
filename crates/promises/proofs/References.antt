-- A reference and an rvalue reference to the same type differ in the mark. Assumes nothing.
use Prim.Native.Char.{code}
use mathlib.Core.Path.{refl, sym, ◌∙◌}
use mathlib.Core.List.{◌++◌, append_assoc}
use Rattle.scan.specs.Bytes.{bytes}
use Rattle.text.specs.Emit.{last_of, lit, ◌⨾◌}
use Rattle.serializer.specs.Serializer.{p, write_pre, write_post, write_return, write_pointee, write_hug, write_storage_class}
use Rattle.promises.specs.Promises.{ReferencesAlike}

pub references-alike : ReferencesAlike
unfolding write_pre write_post ◌⨾◌ lit last_of
references-alike f x s a b c l =
    let referred = write_pointee f a (write_pre f a) (write_return f a) l in
    let space = write_hug f (last_of l referred) in
    let behind = write_storage_class f (p x) (code "&") in
    record {
      before = referred ++ space;
      behind = behind;
      reference = sym (append_assoc (referred ++ space) (bytes "&") behind ∙ append_assoc referred space (bytes "&" ++ behind));
      rvalue = sym (append_assoc (referred ++ space) (bytes "&&") behind ∙ append_assoc referred space (bytes "&&" ++ behind));
      second = refl;
    }
