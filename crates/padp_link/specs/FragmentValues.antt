-- The fragments of the program as fragments.
use Rattle.padp_link.specs.FragmentText.{FragmentValue}
use Rattle.padp_link.specs.declared.fragment.Fragment.{Fragment}

-- a fragment whose part of a message lies elsewhere
abbrev pub fragment_value : Fragment → FragmentValue
fragment_value fragment = record {
  kind = fragment.kind;
  flags = fragment.flags;
  size = fragment.size;
  bytes = fragment.bytes.now;
}
